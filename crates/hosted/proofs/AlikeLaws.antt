-- Boxes whose gaps are the same answer a batch and a write-off alike, whatever else stands in their rows and records.
use Prim.Native.Nat.{ℕ, zero, suc}
use Rattle.std.specs.Prelude.{◌≡◌, refl, Bool, true, false, cond, eqb, length, drop, Ok, Err, Result}
use Rattle.std.proofs.Math.Path.{sym, ap}
use Rattle.std.proofs.Common.{subst, ◌∙◌}
use mathlib.Core.List.{List, [], ◌∷◌, ◌++◌}
use Rattle.std.proofs.Math.Option.{Option, none, some}
use Rattle.laws.specs.Rules.{first_broken}
use Rattle.laws.specs.RulesLaws.{front_holds}
use Rattle.pairs.specs.Lists.{Lists}
use Rattle.lookup.specs.Lookup.{segment_of}
use Rattle.forms.specs.Forms.{subject_of}
use Rattle.sequence.specs.Gaps.{Gaps, takes}
use Rattle.sequence.specs.Changes.{full, after}
use Rattle.sequence.specs.Row.{gaps_of}
use Rattle.sequence.specs.RowLaid.{laid}
use Rattle.sequence.specs.RowLaws.{laid_gaps}
use Rattle.message.specs.declared.body.What.{What}
use Rattle.message.specs.declared.body.What.TheVariants as what
use Rattle.head.specs.declared.head.Fault.{Fault}
use Rattle.head.specs.Fields.{length_of}
use Rattle.message.specs.Reads.{message_of}
use Rattle.state.specs.declared.refusal.Refusal.{Refusal}
use Rattle.state.specs.declared.refusal.Refusal.TheVariants.{Count, Gaps as GapsOver}
use Rattle.state.specs.GoodState.{GoodState}
use Rattle.state.specs.Memory.{Lent, lends}
use Rattle.state.specs.State.{state_rules}
use Rattle.state.specs.StateLaws.{state_exact}
use Rattle.turns.specs.Turns.{Box, Acted, acted, refused, number_acts, updated, what_acts, message_acts, next, messages_act}
use Rattle.turns.specs.Compared.{counted_numbers}
use Rattle.batch.specs.Batch.{batch_letter, count_of, batch_data, batch_rules}
use Rattle.batch.specs.Acts.{box_of, unless_broken, batch_acts, batch_compared, batch_numbers}
use Rattle.listing.specs.ListRules.{gaps_of_letter}

-- the same gaps and the same counts
record Alike (a b : Box) : Type 0 where
  gaps : gaps_of a.row ≡ gaps_of b.row
  taken : a.taken ≡ b.taken
  old : a.old ≡ b.old
  heartbeats : a.heartbeats ≡ b.heartbeats

-- the same refusal, or boxes that are alike
abbrev BothAct : Acted → Acted → Type 0
BothAct (acted a) (acted b) = Alike a b
BothAct (acted a) (refused s) = ⊥
BothAct (refused r) (acted b) = ⊥
BothAct (refused r) (refused s) = r ≡ s

-- ---- a number

-- what a number does to a box that has these gaps
abbrev number_with : Gaps → Box → ℕ → ℕ → (List ℕ → List ℕ) → Acted
number_with gaps box i number changed =
    cond (takes gaps number)
    (cond (full gaps number) (refused (GapsOver i))
    (acted (record { row = laid box.row (after gaps number); records = changed box.records; taken = suc box.taken; old = box.old; heartbeats = box.heartbeats })))
    (acted (record { row = box.row; records = box.records; taken = box.taken; old = suc box.old; heartbeats = box.heartbeats }))

module _ (a b : Box) (same : Alike a b) where
  number_alike : (i number : ℕ) (f g : List ℕ → List ℕ) → BothAct (number_acts a i number f) (number_acts b i number g)
  number_alike i number f g =
      subst (λ (gaps : Gaps). BothAct (number_acts a i number f) (number_with gaps b i number g)) same.gaps (go (takes gaps number) (full gaps number))
    where
      gaps : Gaps
      gaps = gaps_of a.row

      go : (new over : Bool)
          → BothAct
          (cond new (cond over (refused (GapsOver i)) (acted (record { row = laid a.row (after gaps number); records = f a.records; taken = suc a.taken; old = a.old; heartbeats = a.heartbeats })))
          (acted (record { row = a.row; records = a.records; taken = a.taken; old = suc a.old; heartbeats = a.heartbeats })))
          (cond new (cond over (refused (GapsOver i)) (acted (record { row = laid b.row (after gaps number); records = g b.records; taken = suc b.taken; old = b.old; heartbeats = b.heartbeats })))
          (acted (record { row = b.row; records = b.records; taken = b.taken; old = suc b.old; heartbeats = b.heartbeats })))
      go true true = refl
      go true false =
          record { gaps = laid_gaps a.row (after gaps number) ∙ sym (laid_gaps b.row (after gaps number)); taken = ap suc same.taken; old = same.old; heartbeats = same.heartbeats }
      go false over = record { gaps = same.gaps; taken = same.taken; old = ap suc same.old; heartbeats = same.heartbeats }

  -- ---- a message

  message_alike : (lists : Lists) (letter i : ℕ) (bytes : List ℕ) → BothAct (message_acts lists letter a i bytes) (message_acts lists letter b i bytes)
  unfolding message_acts
  message_alike lists letter i bytes = go (message_of lists letter bytes).what
    where
      cells : List ℕ
      cells = (message_of lists letter bytes).cells

      go : (w : Result What Fault) → BothAct (what_acts lists letter a i w cells) (what_acts lists letter b i w cells)
      go (Err fault) = refl
      go (Ok what.Heartbeat) = record { gaps = same.gaps; taken = same.taken; old = same.old; heartbeats = ap suc same.heartbeats }
      go (Ok (what.PassedOver number)) = number_alike i number (λ records. records) (λ records. records)
      go (Ok (what.Update number form place)) =
          number_alike i number (updated lists (segment_of lists.contracts letter) place (subject_of form) form number cells) (updated lists (segment_of lists.contracts letter) place (subject_of form) form number cells)

-- ---- the messages of a batch

next_alike : (x y : Acted) (more : Box → Acted) → BothAct x y → ((a b : Box) → Alike a b → BothAct (more a) (more b)) → BothAct (next x more) (next y more)
next_alike (acted a) (acted b) more same then = then a b same
next_alike (acted a) (refused s) more same then = absurd same
next_alike (refused r) (acted b) more same then = absurd same
next_alike (refused r) (refused s) more same then = same

messages_alike : (n : ℕ) (lists : Lists) (letter i : ℕ) (bytes : List ℕ) (a b : Box) → Alike a b → BothAct (messages_act n lists letter i a bytes) (messages_act n lists letter i b bytes)
unfolding messages_act
messages_alike zero lists letter i bytes a b same = go (eqb (length bytes) 0)
  where
    go : (none_left : Bool) → BothAct (cond none_left (acted a) (refused Count)) (cond none_left (acted b) (refused Count))
    go true = same
    go false = refl
messages_alike (suc n) lists letter i bytes a b same =
    next_alike (message_acts lists letter a i bytes) (message_acts lists letter b i bytes) (λ box. messages_act n lists letter (suc i) box (drop (length_of bytes) bytes))
    (message_alike a b same lists letter i bytes) (messages_alike n lists letter (suc i) (drop (length_of bytes) bytes))

-- what is answered of a batch, with the keys compared
abbrev numbers_for : Lists → List ℕ → Acted → List ℕ
numbers_for lists batch acts = counted_numbers acts (batch_compared lists batch acts)

numbers_alike : (lists : Lists) (batch : List ℕ) (x y : Acted) → BothAct x y → numbers_for lists batch x ≡ numbers_for lists batch y
numbers_alike lists batch (acted a) (acted b) same = λ k. 0 ∷ same.taken k ∷ same.old k ∷ same.heartbeats k ∷ batch_compared lists batch (acted a) ∷ []
numbers_alike lists batch (acted a) (refused s) same = absurd same
numbers_alike lists batch (refused r) (acted b) same = absurd same
numbers_alike lists batch (refused r) (refused s) same = ap (λ (q : Refusal). numbers_for lists batch (refused q)) same

-- ---- a batch

-- two good states of one contract list and spread list
module _ (lists : Lists) (rows records rows' records' : List ℕ) (good : GoodState (lends lists rows records)) (good' : GoodState (lends lists rows' records')) (batch : List ℕ) where
  abbrev lent : Lent
  lent = lends lists rows records

  abbrev lent' : Lent
  lent' = lends lists rows' records'

  abbrev letter : ℕ
  letter = batch_letter batch

  rules_hold : (l : Lent) → GoodState l → first_broken (state_rules l ++ batch_rules batch) ≡ first_broken (batch_rules batch)
  rules_hold l state = front_holds (state_rules l) (batch_rules batch) ((state_exact l).1 state)

  -- with the same gaps of the letter that a batch begins with
  pub batches_alike : gaps_of_letter lent letter ≡ gaps_of_letter lent' letter → batch_numbers lent batch ≡ batch_numbers lent' batch
  unfolding batch_acts gaps_of_letter
  batches_alike gaps =
      ap (λ (o : Option Refusal). numbers_for lists batch (unless_broken o (turns lent))) (rules_hold lent good)
      ∙ go (first_broken (batch_rules batch))
      ∙ sym (ap (λ (o : Option Refusal). numbers_for lists batch (unless_broken o (turns lent'))) (rules_hold lent' good'))
    where
      turns : Lent → Acted
      turns l = messages_act (count_of batch) lists letter 0 (box_of l letter) (batch_data batch)

      go : (o : Option Refusal) → numbers_for lists batch (unless_broken o (turns lent)) ≡ numbers_for lists batch (unless_broken o (turns lent'))
      go (some refusal) = refl
      go none =
          numbers_alike lists batch (turns lent) (turns lent')
          (messages_alike (count_of batch) lists letter 0 (batch_data batch) (box_of lent letter) (box_of lent' letter) (record { gaps = gaps; taken = refl; old = refl; heartbeats = refl }))
