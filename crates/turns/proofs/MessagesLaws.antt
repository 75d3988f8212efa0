-- Laws of messages that act in turn: one step, and where they end.
use Rattle.std.specs.Prelude.{ℕ, suc, ◌+◌, ◌-◌, ◌*◌, ◌≤◌, ◌<◌, ◌≡◌, refl, true, List, [], length, drop, take, Result, Ok, Err}
use Rattle.std.proofs.Common.{ap, sym, ◌∙◌, ⊎_elim, add-one, arith, eq-eqb, ne_eqb, length-drop, drop-drop, take_all}
use Rattle.std.proofs.lemmas.Bool.{false≢true}
use Rattle.pairs.specs.Lists.{Lists}
use Rattle.sequence.specs.RowLaid.{sound_gap_row}
use Rattle.head.specs.Fields.{length_of}
use Rattle.message.specs.Compared.{message_compared, so_far}
use Rattle.message.specs.Message.{Message}
use Rattle.message.specs.Reads.{message_of}
use Rattle.turns.specs.declared.act.Act.{Act}
use Rattle.turns.specs.declared.act.Act.TheVariants.{Taken, Old, Heartbeat}
use Rattle.turns.specs.declared.act.Counts.{Counts}
use Rattle.turns.specs.declared.act.Step.{Step}
use Rattle.turns.specs.declared.act.InTurn.{InTurn}
use Rattle.state.specs.declared.answers.Judged.{Judged}
use Rattle.state.specs.declared.answers.Judged.TheVariants as judged
use Rattle.state.specs.AnswersLaws.{judged_told}
use Rattle.state.specs.declared.refusal.Refusal.{Refusal}
use Rattle.state.specs.declared.refusal.Refusal.TheVariants.{Count}
use Rattle.turns.specs.Acts.{counted, none, total, box_at, passed, acted_as, MessageActs, JudgedMessages, Turned}
use Rattle.turns.specs.ActsLaws.{acts_as_lem}
use Rattle.turns.specs.Compared.{compared_in, reached, reached_by, counted_numbers}
use Rattle.turns.specs.ComparedLaws.{not_both, reached_passed}
use Rattle.turns.proofs.ReachedLaws.{reached_refused}
use Rattle.turns.specs.Turns.{Box, Acted, acted, refused, what_acts, message_acts, messages_act}
use Rattle.slots.specs.Slots.{records_wanted}
use Rattle.stores.specs.Stores.{store_cells, made, AllFit, least_update, Room}

-- what the messages are answered, with the stores kept
abbrev turn_of : Judged → ℕ → InTurn
turn_of answer kept = record { answer = answer; kept = kept }

pub turned_told : {answer : Judged} {kept : ℕ} {turn : InTurn} → Turned answer kept turn → turn ≡ turn_of answer kept
turned_told {answer} {turn = turn} t = λ i. record { answer = judged_told turn.answer answer t.says i; kept = t.kept_are i }

module _ (lists : Lists) (letter : ℕ) where
  module _ (more i : ℕ) (box : Box) (bytes : List ℕ) where
    pub messages_next : (box' : Box) → message_acts lists letter box i bytes ≡ acted box'
        → messages_act (suc more) lists letter i box bytes ≡ messages_act more lists letter (suc i) box' (drop (length_of bytes) bytes)
    unfolding messages_act
    messages_next box' e = rw e

    pub messages_refused : (refusal : Refusal) → message_acts lists letter box i bytes ≡ refused refusal
        → messages_act (suc more) lists letter i box bytes ≡ refused refusal
    unfolding messages_act
    messages_refused refusal e = rw e

  module _ (i : ℕ) (box : Box) (bytes : List ℕ) where
    pub messages_end : length bytes ≡ 0 → messages_act 0 lists letter i box bytes ≡ acted box
    unfolding messages_act
    messages_end e = rw (eq-eqb (length bytes) 0 e)

    pub messages_over : 0 < length bytes → messages_act 0 lists letter i box bytes ≡ refused Count
    unfolding messages_act
    messages_over h = rw (ne_eqb (length bytes) 0 (λ e. omega arith))

-- a step that passes is acted, one that doesn't is refused
pub passed_acts : (act : Result Act Refusal) (box : Box) → passed act ≡ true → acted_as act box ≡ acted box
passed_acts (Ok _) box e = refl
passed_acts (Err refusal) box e = absurd (false≢true e)

-- each message that passes counts once
pub counted_one : (act : Result Act Refusal) (counts : Counts) → passed act ≡ true → total (counted act counts) ≡ suc (total counts)
counted_one (Ok Taken) counts e = omega arith
counted_one (Ok Old) counts e = omega arith
counted_one (Ok Heartbeat) counts e = omega arith
counted_one (Err refusal) counts e = absurd (false≢true e)

-- the bytes from a place on
pub rest_is : (bytes : List ℕ) (at : ℕ) → at ≤ length bytes → take (length bytes - at) (drop at bytes) ≡ drop at bytes
rest_is bytes at h = take_all (length bytes - at) (drop at bytes) (omega (arith, length-drop at bytes))

module _ (lists : Lists) (letter : ℕ) (row₀ : List ℕ) (cells : ℕ) (bytes : List ℕ) (count : ℕ) where
  abbrev acts : List ℕ → Acted
  acts records = messages_act count lists letter 0 (box_at row₀ records none) bytes

  -- all messages before message i have passed, and left this row, these stores and these counts; they compared so many keys
  pub record Going (row stores : List ℕ) (kept : ℕ) (counts : Counts) (compared at i : ℕ) : Type 0 where
    pub changes : List ℕ → List ℕ
    pub so_far_lem : (records : List ℕ) → acts records ≡ messages_act (count - i) lists letter i (box_at row (changes records) counts) (drop at bytes)
    pub makes : Room cells (length bytes) → (records : List ℕ) → made kept stores records ≡ changes records
    pub fit : AllFit (records_wanted lists) kept stores
    pub few : least_update * kept ≤ at
    pub within : store_cells * kept ≤ cells
    pub adds : (more : ℕ) → compared_in (i + more) lists letter bytes ≡ compared + compared_in more lists letter (drop at bytes)

  -- the numbers of what the messages did, with the keys that they compared
  counted_as_lem : (records : List ℕ) {done : Acted} {compared : ℕ} → acts records ≡ done → compared_in (reached_by count done) lists letter bytes ≡ compared
      → counted_numbers done compared ≡ counted_numbers (acts records) (compared_in (reached_by count (acts records)) lists letter bytes)
  counted_as_lem records e f = rw (e, f)

  -- a refused batch leaves no box
  refused_judged : (refusal : Refusal) (compared : ℕ) (row'' stores'' : List ℕ) → ((records : List ℕ) → acts records ≡ refused refusal) → compared_in (reached count refusal) lists letter bytes ≡ compared
      → JudgedMessages lists letter row₀ cells bytes count (turn_of (judged.Refused refusal compared) 0) row'' stores''
  refused_judged refusal compared row'' stores'' e f =
      record { answers = λ records. counted_as_lem records (e records) f; leaves = λ records box f. absurd (not_both (sym (e records) ∙ f)) }

  pub begins : (stores : List ℕ) → Going row₀ stores 0 none 0 0 0
  begins stores =
      let e : count ≡ count - 0 = omega arith in
      record {
        changes = λ records. records;
        so_far_lem = λ records. ap (λ (n : ℕ). messages_act n lists letter 0 (box_at row₀ records none) bytes) e;
        makes = λ room records. refl;
        fit = λ i h. absurd (omega arith);
        few = omega arith;
        within = omega arith;
        adds = λ more. let e : 0 + more ≡ more = omega arith in ap (λ (n : ℕ). compared_in n lists letter bytes) e ∙ omega arith;
      }

  module _ (row stores : List ℕ) (kept : ℕ) (counts : Counts) (compared at i : ℕ) (going : Going row stores kept counts compared at i) where
    module _ (h : i < count) (step : Step) (row' stores' : List ℕ) (m : MessageActs lists letter row stores kept i (drop at bytes) step row' stores') where
      turn : (records : List ℕ) → acts records ≡ messages_act (suc (count - (i + 1))) lists letter i (box_at row (going.changes records) counts) (drop at bytes)
      turn records =
          let one_left : count - i ≡ suc (count - (i + 1)) = omega arith in
          going.so_far_lem records ∙ ap (λ (n : ℕ). messages_act n lists letter i (box_at row (going.changes records) counts) (drop at bytes)) one_left

      -- what the message is decides what it does
      abbrev here : Message
      here = message_of lists letter (drop at bytes)

      acts_here : (records : List ℕ) → what_acts lists letter (box_at row records counts) i here.what here.cells ≡ acted_as step.act (box_at row' (m.changes records) (counted step.act counts))
      acts_here records = sym (acts_as_lem lists letter (drop at bytes) here refl refl (box_at row records counts) i) ∙ m.acts records counts

      module _ (lent : length stores ≡ cells) (p : passed step.act ≡ true) (fits : at + step.length ≤ length bytes) where
        -- the bytes that are left show that an update has room
        room_here : Room cells (length bytes) → least_update ≤ step.length → store_cells * kept + store_cells ≤ length stores
        room_here room least = omega (arith, room.there, room.enough, going.few)

        -- the keys that it compared come behind those before it
        one_more : (more : ℕ) → compared_in (i + 1 + more) lists letter bytes ≡ compared + step.compared + compared_in more lists letter (drop (at + step.length) bytes)
        one_more more =
            let shift : i + 1 + more ≡ i + suc more = omega arith in
            let all = m.steps ∙ reached_passed lists letter (box_at row [] counts) i _ here.cells here.what (acts_here [] ∙ passed_acts step.act _ p) in
            let rest : compared_in more lists letter (drop (length_of (drop at bytes)) (drop at bytes)) ≡ compared_in more lists letter (drop (at + step.length) bytes) =
            rw (m.length_is, drop-drop (length_of (drop at bytes)) at bytes) in
            ap (λ (n : ℕ). compared_in n lists letter bytes) shift ∙ going.adds (suc more) ∙ omega (arith, all, rest)

        pub going_on : Going row' stores' step.kept (counted step.act counts) (compared + step.compared) (at + step.length) (i + 1)
        going_on =
            record {
              changes = λ records. m.changes (going.changes records);
              so_far_lem = λ records.
                  turn records
                  ∙ messages_next lists letter (count - (i + 1)) i (box_at row (going.changes records) counts) (drop at bytes) _ (m.acts (going.changes records) counts ∙ passed_acts step.act _ p)
                  ∙ rw (add-one i, m.length_is, drop-drop (length_of (drop at bytes)) at bytes);
              makes = λ room records. m.keeps.makes (room_here room) records ∙ ap m.changes (going.makes room records);
              fit = m.keeps.fit going.fit;
              few = omega (arith, m.keeps.few, going.few);
              within = omega (arith, m.keeps.within);
              adds = one_more;
            }

      -- the messages that have come to their lookup have compared as many
      so_far_refused : (refusal : Refusal) → step.act ≡ Err refusal → compared_in (reached count refusal) lists letter bytes ≡ compared + step.compared
      so_far_refused refusal e =
          ⊎_elim
          (λ (h : (reached count refusal ≡ i) × (so_far here.what (message_compared lists letter (drop at bytes)) ≡ 0)).
          let n : reached count refusal ≡ i + 0 = omega (arith, h.0) in
          ap (λ (k : ℕ). compared_in k lists letter bytes) n ∙ going.adds 0 ∙ omega (arith, m.steps, h.1))
          (λ (h : (reached count refusal ≡ i + 1) × (so_far here.what (message_compared lists letter (drop at bytes)) ≡ message_compared lists letter (drop at bytes))).
          ap (λ (k : ℕ). compared_in k lists letter bytes) h.0 ∙ going.adds 1 ∙ omega (arith, m.steps, h.1))
          (reached_refused lists letter (box_at row [] counts) i _ here.cells here.what (rw e at (acts_here [])) count)

      pub going_refused : (refusal : Refusal) → step.act ≡ Err refusal → (row'' stores'' : List ℕ)
          → JudgedMessages lists letter row₀ cells bytes count (turn_of (judged.Refused refusal (compared + step.compared)) 0) row'' stores''
      going_refused refusal e row'' stores'' =
          refused_judged refusal (compared + step.compared) row'' stores''
          (λ records. turn records
          ∙ messages_refused lists letter (count - (i + 1)) i (box_at row (going.changes records) counts) (drop at bytes) refusal (rw e at (m.acts (going.changes records) counts)))
          (so_far_refused refusal e)

    module _ (h : count ≤ i) (end : i ≤ count) where
      all_compared : compared_in count lists letter bytes ≡ compared
      all_compared = let e : count ≡ i + 0 = omega arith in ap (λ (n : ℕ). compared_in n lists letter bytes) e ∙ going.adds 0 ∙ omega arith

      ended : (records : List ℕ) → acts records ≡ messages_act 0 lists letter i (box_at row (going.changes records) counts) (drop at bytes)
      ended records =
          let none_left : count - i ≡ 0 = omega arith in
          going.so_far_lem records ∙ ap (λ (n : ℕ). messages_act n lists letter i (box_at row (going.changes records) counts) (drop at bytes)) none_left

      pub going_over : at < length bytes → (row'' stores'' : List ℕ) → JudgedMessages lists letter row₀ cells bytes count (turn_of (judged.Refused Count compared) 0) row'' stores''
      going_over l row'' stores'' =
          refused_judged Count compared row'' stores'' (λ records. ended records ∙ messages_over lists letter i _ (drop at bytes) (omega (arith, length-drop at bytes))) all_compared

      pub going_ends : length bytes ≤ at → sound_gap_row row ≡ true → length stores ≡ cells
          → JudgedMessages lists letter row₀ cells bytes count (turn_of (judged.Accepted counts.taken counts.old counts.heartbeats compared) kept) row stores
      going_ends l s lent =
          let finish : (records : List ℕ) → acts records ≡ acted (box_at row (going.changes records) counts) = λ records. ended records ∙ messages_end lists letter i _ (drop at bytes) (omega (arith, length-drop at bytes)) in
          record {
            answers = λ records. counted_as_lem records (finish records) all_compared;
            leaves = λ records box e.
                let same : acted (box_at row (going.changes records) counts) ≡ acted box = sym (finish records) ∙ e in
                let is : box_at row (going.changes records) counts ≡ box = cc in
                record {
                  row_is = sym (ap (λ (b : Box). b.row) is);
                  sound = s;
                  records_are = λ room. sym (ap (λ (b : Box). b.records) is) ∙ sym (going.makes room records);
                  fit = going.fit;
                  within = omega (arith, going.within);
                };
          }
