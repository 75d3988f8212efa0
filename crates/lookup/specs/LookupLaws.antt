-- Laws of the lookups: what is found is what is listed.
use Rattle.std.specs.Prelude.{ℕ, ◌≤◌, ◌<◌, ◌≡◌, refl, ◌↔◌, List}
use Rattle.std.proofs.Math.Path.{sym, ap}
use Rattle.std.proofs.Common.{◌∙◌}
use Rattle.std.proofs.Math.Option.{Option, none, some}
use borrow.Author.Tests.{eqb-true, eqb-false}
use Rattle.std.proofs.Math.Dec.{eqb}
use Rattle.laws.specs.Refused.{contract_no}
use Rattle.files.specs.declared.habit.Habit.{Habit}
use Rattle.lookup.specs.declared.lookup.Sought.{Sought}
use Rattle.lookup.specs.Answers.{found_numbers, looked_up, Reports}
use Rattle.files.specs.BelowLaws.{first_passes, none_passes}
use Rattle.files.specs.File.{segments_of, letter_at, count_at, key_by}
use Rattle.lookup.specs.Halving.{Halved, halved, digits}
use Rattle.contracts.specs.HeaderLaws.{letters_apart}
use Rattle.lookup.specs.HalvingLaws.{none_left, compared_few, found_matches, match_found}
use Rattle.files.specs.Keys.{order_of}
use Rattle.files.specs.KeysLaws.{between, same_key, key_same}
use Rattle.lookup.specs.Lookup.{segment_of, stands_to, lookup}
use Rattle.contracts.specs.Sound.{HeaderBy, SoundBy}
use Rattle.contracts.specs.SoundLaws.{keys_climb}

module _ (list : List ℕ) where
  -- a segment that is found has the letter, whatever the list is
  pub segment_has : (letter i : ℕ) → segment_of list letter ≡ some i → (i < segments_of list) × (letter_at list i ≡ letter)
  unfolding segment_of
  segment_has letter i e =
      let h = first_passes (λ j. eqb (letter_at list j) letter) (segments_of list) i e in
      (h.0, eqb-true (letter_at list i) letter h.1)

  -- where the header is sound the segment with a letter is found, and it is the only one
  pub segment_exact : {habit : Habit} → HeaderBy habit list → (letter i : ℕ) → segment_of list letter ≡ some i ↔ (i < segments_of list) × (letter_at list i ≡ letter)
  unfolding segment_of
  segment_exact h letter i = (segment_has letter i, (λ l. go l (segment_of list letter) refl))
    where
      go : (i < segments_of list) × (letter_at list i ≡ letter) → (o : Option ℕ) → segment_of list letter ≡ o → segment_of list letter ≡ some i
      go l none e =
          absurd (eqb-false (letter_at list i) letter (none_passes (λ j. eqb (letter_at list j) letter) (segments_of list) e i l.0) l.1)
      go l (some j) e =
          let k = segment_has letter j e in
          e ∙ ap some (letters_apart list h j i k.0 l.0 (k.1 ∙ sym l.1))

module _ (habit : Habit) (list : List ℕ) (i : ℕ) (key : List ℕ) where
  -- M-102: at most the binary digits of the segment's count
  pub lookup_steps : (lookup habit list i key).compared ≤ digits (count_at list i)
  unfolding lookup
  lookup_steps = compared_few (stands_to habit list i key) (count_at list i)

  -- none of none
  pub lookup_none : count_at list i ≡ 0 → (lookup habit list i key).compared ≡ 0
  unfolding lookup
  lookup_none e =
      let s = stands_to habit list i key in
      ap (λ (n : ℕ). (halved s n).compared) e ∙ ap (λ (h : Halved). h.compared) (none_left s 0 0)

  -- so that a lookup that reports its place and its steps reports few
  pub reported : (answer : Sought) → found_numbers contract_no answer.found ≡ looked_up contract_no (lookup habit list i key).place
      → answer.compared ≡ (lookup habit list i key).compared → Reports (lookup habit list i key) (count_at list i) answer
  reported answer place steps = record { place = place; steps = steps; few = rw steps lookup_steps }

  -- a key that is found stands at its place, whatever the bodies hold
  pub key_at_place : (k : ℕ) → (lookup habit list i key).place ≡ some k → (k < count_at list i) × (key_by habit list i k ≡ key)
  unfolding lookup
  key_at_place k e =
      let h = found_matches (stands_to habit list i key) (count_at list i) k e in
      (h.0, sym (same_key key (key_by habit list i k) h.1))

module _ {habit : Habit} (list : List ℕ) (i : ℕ) (key : List ℕ) where
  -- in a sound list a key is found exactly when it is listed, at its place
  pub key_exact : SoundBy habit list → i < segments_of list → (k : ℕ) → (lookup habit list i key).place ≡ some k ↔ (k < count_at list i) × (key_by habit list i k ≡ key)
  unfolding lookup
  key_exact s l k = (
    key_at_place habit list i key k,
    (λ h.
        match_found (stands_to habit list i key) (count_at list i) k
        (λ a b m n. between key (key_by habit list i a) (key_by habit list i b) (keys_climb list s i a b l m n))
        h.0 (ap (order_of key) h.1 ∙ key_same key)),
  )
