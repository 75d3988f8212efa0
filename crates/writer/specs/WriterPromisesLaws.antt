-- What the writer's promise settles: one outcome, a refusal that changes no byte, and the message of an accepted call.
use Rattle.std.specs.Prelude.{ℕ, ◌+◌, ◌≡◌, ◌↔◌, List, [], ◌∷◌, ◌++◌, length, take, drop, Option, Result, Ok, Err}
use Rattle.std.proofs.Math.Path.{ap, sym}
use Rattle.std.proofs.Common.{◌∙◌, leb-true, le-leb, take_at, drop_at}
use Rattle.std.proofs.Math.Option.{Option as Maybe, none, some}
use Rattle.laws.specs.Rules.{first_broken}
use Rattle.laws.specs.RulesLaws.{none_hold, hold_none, hold_append}
use Rattle.forms.specs.declared.rows.Level.{Level}
use Rattle.forms.specs.declared.forms.Form.{Form}
use Rattle.forms.specs.declared.forms.Item.{Item}
use Rattle.compose.specs.Write.{Laid}
use Rattle.forms.specs.Sizes.{bare_length}
use Rattle.state.specs.declared.refusal.Refusal.{Refusal}
use Rattle.writer.specs.declared.writing.Code.{Code}
use Rattle.state.specs.AnswersLaws.{written_told, refused_by_lem, accepted_by}
use Rattle.state.specs.Answers.{left_by}
use Rattle.state.specs.Refusals.{Rule}
use Rattle.writer.specs.Writer.{code_rules, values_written, data_written, rows_rules, room_rules, length_written, write_rules, GoodWrite, message_bytes, message_put}
use Rattle.writer.specs.Chosen.{form_written}
use Rattle.writer.specs.WriterLaws.{rows_pass, long_data, message_long}
use Rattle.writer.specs.WriterPromises.{WroteValues}

-- none of its rules is broken exactly where the message is good
pub write_exact : (form : Option Form) (number : ℕ) (key values : List ℕ) (room : ℕ)
    → first_broken (write_rules form number key values room) ≡ none ↔ GoodWrite form number key values room
unfolding write_rules
write_exact form number key values room = (to, from)
  where
    rows : Laid
    rows = data_written form key values

    last : List Rule
    last = room_rules (length_written form) room

    to : first_broken (code_rules form number ++ rows_rules rows.verdict ++ last) ≡ none → GoodWrite form number key values room
    to e =
        let front = (hold_append (code_rules form number ++ rows_rules rows.verdict) last).0 (none_hold (code_rules form number ++ rows_rules rows.verdict ++ last) e) in
        let two = (hold_append (code_rules form number) (rows_rules rows.verdict)).0 front.0 in
        record {
          tabled = two.0.0;
          has_number = two.0.1.0;
          rows_good = rows_pass rows.verdict (hold_none (rows_rules rows.verdict) two.1);
          has_room = leb-true (length_written form) room front.1.0;
        }

    from : GoodWrite form number key values room → first_broken (code_rules form number ++ rows_rules rows.verdict ++ last) ≡ none
    from g =
        rw (g.rows_good, g.tabled, g.has_number, le-leb (length_written form) room g.has_room)

module _ (item : Item) (code : Code) (level : Level) (number : ℕ) (key : List ℕ) (values : Form → List ℕ) (out : List ℕ) where
  abbrev form : Option Form
  form = form_written item code level

  abbrev given : List ℕ
  given = values_written form values

  abbrev broken : Maybe Refusal
  broken = first_broken (write_rules form number key given (length out))

  abbrev rows : Laid
  rows = data_written form key given

  pub one_written : {out' out'' : List ℕ} (a b : Result ℕ Refusal) → WroteValues item code level number key values out a out'
      → WroteValues item code level number key values out b out'' → (a ≡ b) × (out' ≡ out'')
  one_written a b p q = (written_told a b (p.answers ∙ sym q.answers), p.out_left ∙ sym q.out_left)

  -- a refusal is the first broken rule's, and no byte changes
  pub write_refusal_lem : {out' : List ℕ} (r : Refusal) → WroteValues item code level number key values out (Err r) out' → (broken ≡ some r) × (out' ≡ out)
  write_refusal_lem r p =
      let e = refused_by_lem broken (length_written form ∷ []) r p.answers in
      (e, p.out_left ∙ ap (λ (o : Maybe Refusal). left_by o out (message_put code number rows.bytes out)) e)

  -- an accepted message: its length is answered, it stands in front, and no byte behind it changes
  module _ {out' : List ℕ} (n : ℕ) (p : WroteValues item code level number key values out (Ok n) out') where
    held : (broken ≡ none) × (n ∷ [] ≡ length_written form ∷ [])
    held = accepted_by broken (length_written form ∷ []) (n ∷ []) p.answers

    pub written_good : GoodWrite form number key given (length out)
    written_good = (write_exact form number key given (length out)).0 held.0

    pub length_answered_lem : n ≡ length_written form
    length_answered_lem = let values = held.1 in cc

    pub bytes_long : length (message_bytes code number rows.bytes) ≡ n
    unfolding length_written
    bytes_long =
        let g = written_good in
        message_long code number rows.bytes ∙ ap (λ (k : ℕ). k + bare_length) (long_data form key given g.rows_good) ∙ sym length_answered_lem

    put : out' ≡ message_bytes code number rows.bytes ++ drop (length rows.bytes + bare_length) out
    unfolding message_put
    put = p.out_left ∙ ap (λ (o : Maybe Refusal). left_by o out (message_put code number rows.bytes out)) held.0

    pub message_in_front : take n out' ≡ message_bytes code number rows.bytes
    message_in_front = ap (take n) put ∙ take_at (message_bytes code number rows.bytes) _ n bytes_long

    pub nothing_behind : drop n out' ≡ drop n out
    nothing_behind =
        ap (drop n) put ∙ drop_at (message_bytes code number rows.bytes) _ n bytes_long
        ∙ ap (λ (k : ℕ). drop k out) (sym (message_long code number rows.bytes) ∙ bytes_long)
