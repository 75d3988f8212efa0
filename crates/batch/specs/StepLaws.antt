-- What one message of a batch does to gaps and counts.
use Rattle.std.specs.Prelude.{ℕ, suc, ◌+◌, ◌≤◌, ◌≡◌, refl, Bool, true, false, cond, ◌⊎◌, List, [], ◌∷◌, leb, ltb, length, get_or, set, drop, Ok, Err, Result}
use Rattle.layout.specs.declared.read.BadRow.TheVariants as bad_row
use Rattle.layout.specs.Answers.{Verdict}
use Rattle.std.proofs.Common.{ap, sym, ◌∙◌, inl, inr, ⊎_elim, arith, le-leb, ltb-true, ltb-false, drop-set-lt}
use Rattle.std.proofs.Math.Option.{Option, none, some}
use Rattle.std.proofs.lemmas.Bool.{lt-leb}
use Rattle.std.proofs.lemmas.List.Edits.{sets}
use Rattle.std.proofs.Math.Seq.{length-sets}
use Rattle.laws.specs.Choice.{either}
use Rattle.lookup.specs.Lookup.{segment_of}
use Rattle.pairs.specs.Lists.{Lists, Headers}
use Rattle.sequence.specs.Gaps.{Gaps, most, takes}
use Rattle.sequence.specs.Changes.{full, after, runs_after}
use Rattle.sequence.specs.GapsLaws.{after_sound}
use Rattle.sequence.specs.Row.{cells, count, gaps_of}
use Rattle.sequence.specs.RowLaid.{laid, sound_gap_row}
use Rattle.sequence.specs.RowLaws.{laid_gaps, laid_sound, sound_row_exactly}
use Rattle.sequence.specs.Sound.{SoundGaps}
use Rattle.message.specs.declared.body.What.{What}
use Rattle.message.specs.declared.body.What.TheVariants as what
use Rattle.head.specs.declared.head.Fault.{Fault}
use Rattle.forms.specs.declared.forms.Form.{Form}
use Rattle.forms.specs.declared.forms.Subject.{Subject}
use Rattle.forms.specs.declared.forms.Subject.TheVariants.{Nothing, Of}
use Rattle.forms.specs.declared.forms.Item.{Item}
use Rattle.forms.specs.declared.forms.Named.{Named}
use Rattle.forms.specs.declared.forms.Named.TheVariants as is
use Rattle.forms.specs.Forms.{subject_of}
use Rattle.message.proofs.CallerLaws.{contents_good}
use Rattle.head.specs.Fields.{form_in, number_of, data_of}
use Rattle.message.specs.Message.{message_place, market_in, updates, acting_for, acting, acts_as, of_named, of_place, of_subject}
use Rattle.message.specs.Reads.{rows_read, of_verdict, contents_by, message_of}
use Rattle.message.specs.Numbers.{verdict_of}
use Rattle.head.specs.RulesLaws.{unlike}
use Rattle.state.specs.declared.refusal.Refusal.TheVariants.{Gaps as GapsOver}
use Rattle.turns.specs.ActsLaws.{acts_as_lem}
use Rattle.turns.specs.Turns.{Box, Acted, acted, refused, number_acts, message_acts, updated}
use Rattle.stores.specs.Stored.{stored}
use Rattle.slots.specs.Slots.{records_wanted}
use Rattle.slots.specs.Places.{slot_at, slot_in, record_of}
use Rattle.batch.specs.Good.{arrived, arrived_for, arrived_as, gaps_after}
use Rattle.turns.specs.UpdateLaws.{item_of, tells_of, record_wanted}

-- the messages that a box has counted
abbrev pub messages_in : Box → ℕ
messages_in box = box.taken + box.old + box.heartbeats

-- as many cells as before, of which those behind the cells wanted are the same
pub record KeptBehind (wanted : ℕ) (before after : List ℕ) : Type 0 where
  pub as_many : length after ≡ length before
  pub behind : drop wanted after ≡ drop wanted before

pub all_kept : (wanted : ℕ) (cells : List ℕ) → KeptBehind wanted cells cells
all_kept wanted cells = record { as_many = refl; behind = refl }

-- a message acts, and leaves at most 64 runs
pub record Went (wanted : ℕ) (before : Box) (a : Acted) (gaps : Gaps) : Type 0 where
  pub few : leb (length gaps.runs) most ≡ true
  pub box : Box
  pub acts : a ≡ acted box
  pub gaps_are : gaps_of box.row ≡ gaps
  pub sound : sound_gap_row box.row ≡ true
  pub counts : messages_in box ≡ suc (messages_in before)
  pub records_kept : KeptBehind wanted before.records box.records

-- or is refused, since more would stand
pub record Fell (i : ℕ) (a : Acted) (gaps : Gaps) : Type 0 where
  pub many : leb (length gaps.runs) most ≡ false
  pub refuses : a ≡ refused (GapsOver i)

sets_behind : (vs l : List ℕ) (at wanted : ℕ) → at + length vs ≤ wanted → drop wanted (sets l at vs) ≡ drop wanted l
sets_behind [] l at wanted h = refl
sets_behind (v ∷ vs) l at wanted h = sets_behind vs (set l at v) (suc at) wanted (omega arith) ∙ drop-set-lt wanted l at v (omega arith)

-- storing within the cells wanted keeps every cell behind them
stored_behind : (wanted at number : ℕ) (cells records : List ℕ) → at + suc (length cells) ≤ wanted → KeptBehind wanted records (stored at number cells records)
stored_behind wanted at number cells records h = go (ltb (get_or records at 0) number)
  where
    go : (t : Bool) → KeptBehind wanted records (cond t (sets records at (number ∷ cells)) records)
    go true = record { as_many = length-sets records at (number ∷ cells); behind = sets_behind (number ∷ cells) records at wanted h }
    go false = all_kept wanted records

module _ (wanted : ℕ) (box : Box) (i number : ℕ) (changed : List ℕ → List ℕ) (keeps : KeptBehind wanted box.records (changed box.records)) (s : sound_gap_row box.row ≡ true) where
  abbrev g : Gaps
  g = gaps_of box.row

  number_goes : Went wanted box (number_acts box i number changed) (cond (takes g number) (after g number) g) ⊎ Fell i (number_acts box i number changed) (cond (takes g number) (after g number) g)
  number_goes = ⊎_elim taken old (either (takes g number))
    where
      all : (length box.row ≡ cells) × (count box.row ≤ most) × SoundGaps g
      all = (sound_row_exactly box.row).0 s

      Goes : Type 0
      Goes = Went wanted box (number_acts box i number changed) (cond (takes g number) (after g number) g) ⊎ Fell i (number_acts box i number changed) (cond (takes g number) (after g number) g)

      old : takes g number ≡ false → Goes
      old t =
          inl
          (record {
            few = simp t (le-leb (length g.runs) most all.2.few);
            box = record { row = box.row; records = box.records; taken = box.taken; old = suc box.old; heartbeats = box.heartbeats };
            acts = simp t;
            gaps_are = simp t;
            sound = s;
            counts = omega arith;
            records_kept = all_kept wanted box.records;
          })

      taken : takes g number ≡ true → Goes
      taken t =
          ⊎_elim (λ (f : full g number ≡ true).
          inr
          (record { many = simp t (lt-leb (length (runs_after g number)) most (ltb-true most (length (runs_after g number)) f)); refuses = simp (t, f) }))
          (λ (f : full g number ≡ false).
          inl
          (record {
            few = simp t (le-leb (length (runs_after g number)) most (ltb-false most (length (runs_after g number)) f));
            box = record { row = laid box.row (after g number); records = changed box.records; taken = suc box.taken; old = box.old; heartbeats = box.heartbeats };
            acts = simp (t, f);
            gaps_are = simp t (laid_gaps box.row (after g number));
            sound = laid_sound box.row (after g number) all.0 (after_sound g all.2 number f);
            counts = omega arith;
            records_kept = keeps;
          }))
          (either (full g number))

-- an update changes nothing behind the cells wanted
update_behind : (lists : Lists) → Headers lists → (letter : ℕ) (bytes : List ℕ) {number : ℕ} {form : Form} {place : ℕ} → (message_of lists letter bytes).what ≡ Ok (what.Update number form place)
    → (cells records : List ℕ) → KeptBehind (records_wanted lists) records (updated lists (segment_of lists.contracts letter) place (subject_of form) form number cells records)
update_behind lists headers letter bytes {number} {form} {place} e cells records =
    let item : Item = item_of lists headers letter bytes e in
    let level = tells_of lists headers letter bytes e in
    rw level.1
    (stored_behind (records_wanted lists) (slot_at lists (slot_in item (segment_of lists.contracts letter) place level.0)) number (record_of item form cells) records (record_wanted lists headers letter bytes e cells))

-- what a message is tells what its number does to gaps
abbrev Tells : Result What Fault → (Gaps → ℕ → Gaps) → ℕ → Type 0
Tells (Ok what.Heartbeat) comes n = (g : Gaps) → comes g n ≡ g
Tells (Ok (what.PassedOver number)) comes n = ((g : Gaps) → comes g n ≡ arrived g n) × (number ≡ n)
Tells (Ok (what.Update number form place)) comes n = ((g : Gaps) → comes g n ≡ arrived g n) × (number ≡ n)
Tells (Err fault) comes n = Unit {0}

subject_tells : (s : Subject) (form : Form) (n : ℕ) (p : Item → Option ℕ) → Tells (of_subject s n form p) (arrived_for s) n
subject_tells Nothing form n p = λ g. refl
subject_tells (Of item level) form n p = go (p item)
  where
    go : (o : Option ℕ) → Tells (of_place n form o) arrived n
    go none = tt
    go (some q) = ((λ g. refl), refl)

-- what is passed over by its market type counts in the sequence as an update does
acting_tells : (s : Subject) (form : Form) → subject_of form ≡ s → (market n : ℕ) (p : Item → Option ℕ) → Tells (of_named (acting_for s form market) n p) (arrived_for s) n
acting_tells Nothing form e market n p = rw e (λ g. refl)
acting_tells (Of item level) form e market n p = go (updates item market)
  where
    go : (t : Bool) → Tells (of_named (cond t (is.Form form) is.PassedOver) n p) arrived n
    go true = rw e (subject_tells (Of item level) form n p)
    go false = ((λ g. refl), refl)

tells : (v : Verdict) (k : Named) (market n : ℕ) (p : Item → Option ℕ) → Tells (of_verdict v (of_named (acting k market) n p)) (arrived_as k) n
tells (Ok good) (is.Form form) market n p = acting_tells (subject_of form) form refl market n p
tells (Ok good) is.NoLength market n p = ((λ g. refl), refl)
tells (Ok good) is.PassedOver market n p = ((λ g. refl), refl)
tells (Err (bad_row.Field row)) k market n p = tt
tells (Err (bad_row.Range row)) k market n p = tt

module _ (lists : Lists) (headers : Headers lists) (letter : ℕ) (box : Box) (i : ℕ) (bytes : List ℕ) (good : verdict_of (message_of lists letter bytes).what ≡ Ok tt) where
  told : Tells (message_of lists letter bytes).what (arrived_as (form_in bytes)) (number_of bytes)
  unfolding contents_by acts_as
  told =
      rw (contents_good lists letter bytes good)
      (tells (rows_read bytes).verdict (form_in bytes) (market_in (data_of bytes)) (number_of bytes) (message_place lists letter bytes))

  abbrev Goes : Type 0
  Goes = Went (records_wanted lists) box (message_acts lists letter box i bytes) (gaps_after (gaps_of box.row) bytes) ⊎ Fell i (message_acts lists letter box i bytes) (gaps_after (gaps_of box.row) bytes)

  -- a good message goes by its number
  pub good_goes : sound_gap_row box.row ≡ true → Goes
  good_goes s = go (message_of lists letter bytes).what refl told
    where
      go : (w : Result What Fault) → (message_of lists letter bytes).what ≡ w → Tells w (arrived_as (form_in bytes)) (number_of bytes) → Goes
      go (Err fault) e t = absurd (unlike (sym (ap verdict_of e) ∙ good))
      go (Ok what.Heartbeat) e t =
          let all = (sound_row_exactly box.row).0 s in
          inl
          (record {
            few = simp (t (gaps_of box.row)) (le-leb (length (gaps_of box.row).runs) most all.2.few);
            box = record { row = box.row; records = box.records; taken = box.taken; old = box.old; heartbeats = suc box.heartbeats };
            acts = acts_as_lem lists letter bytes (message_of lists letter bytes) refl e box i;
            gaps_are = sym (t (gaps_of box.row));
            sound = s;
            counts = omega arith;
            records_kept = all_kept (records_wanted lists) box.records;
          })
      go (Ok (what.PassedOver number)) e t =
          rw (t.0 (gaps_of box.row), ← t.1, acts_as_lem lists letter bytes (message_of lists letter bytes) refl e box i)
          (number_goes (records_wanted lists) box i number (λ records. records) (all_kept (records_wanted lists) box.records) s)
      go (Ok (what.Update number form place)) e t =
          rw (t.0 (gaps_of box.row), ← t.1, acts_as_lem lists letter bytes (message_of lists letter bytes) refl e box i)
          (number_goes (records_wanted lists) box i number (updated lists (segment_of lists.contracts letter) place (subject_of form) form number (message_of lists letter bytes).cells)
          (update_behind lists headers letter bytes e (message_of lists letter bytes).cells box.records) s)
