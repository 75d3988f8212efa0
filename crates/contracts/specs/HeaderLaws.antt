-- Laws of the header: its test says exactly what the rules say, what follows from them, and that bodies aren't looked at.
use Prim.Native.Nat.{ℕ, zero, suc, ◌+◌, ◌-◌, ◌*◌, ◌≤◌, ◌<◌}
use Rattle.std.specs.Prelude.{◌≡◌, refl, ◌↔◌, ◌&&◌, List, leb, ltb, length}
use Rattle.std.proofs.Math.Path.{ap}
use Rattle.std.proofs.Common.{sym, ◌∙◌, ⊎_elim, mul-zero, mul-add, mul-one, mul-le-mul_left, mul-le-mul_right, add-one, arith}
use Rattle.std.proofs.Math.Bool.{Bool, true}
use borrow.Author.Tests.{ltb-true, leb-true, eqb-true, lt-ltb, le-leb, eq-eqb}
use Rattle.std.proofs.Math.Dec.{eqb}
use Rattle.laws.specs.Order.{three, climbs}
use Rattle.laws.specs.Tests.{both, conj, eqb_is, or_assoc, or_is}
use Rattle.files.specs.declared.habit.Habit.{Habit}
use Rattle.files.specs.Below.{all_below}
use Rattle.files.specs.BelowLaws.{each_passes, all_pass, sum_under}
use Rattle.files.specs.File.{segments_of, letter_at, zero_at, count_at, offset_at, entry_at, key_at, key_by, contracts_before, contracts_of}
use Rattle.files.specs.FileLaws.{none_before, before_sum, before_next, before_reaches, whole_key}
use Rattle.contracts.specs.Sound.{HeaderBy, Letter, most_segments, letter_d, letter_f, letter_t}
use Rattle.contracts.specs.SoundTests.{within, is_letter, letter_ascends, body_at, entry_sound, header_sound_by}

pub within_facts : (low high n : ℕ) → within low high n ≡ true → (low ≤ n) × (n ≤ high)
within_facts low high n e =
    let h = both (leb low n) (leb n high) e in
    (leb-true low n h.0, leb-true n high h.1)

pub within_holds : (low high n : ℕ) → low ≤ n → n ≤ high → within low high n ≡ true
within_holds low high n h k = conj (leb low n) (leb n high) (le-leb low n h) (le-leb n high k)

-- the test of a letter says what a letter is
letter_exact : (letter : ℕ) → is_letter letter ≡ true ↔ Letter letter
letter_exact letter =
    rw (or_assoc (eqb letter letter_d) (eqb letter letter_f) (eqb letter letter_t)) (or_is (eqb_is letter letter_d) (or_is (eqb_is letter letter_f) (eqb_is letter letter_t)))

-- what the test of an entry tells
record EntryFacts (habit : Habit) (list : List ℕ) (i : ℕ) : Type 0 where
  letter : Letter (letter_at list i)
  ascends : letter_ascends list i ≡ true
  zero_byte : zero_at list i ≡ 0
  counts : (habit.fewest ≤ count_at list i) × (count_at list i ≤ habit.most)
  offset : offset_at list i ≡ body_at habit list i

ascends_next : (list : List ℕ) (i : ℕ) → letter_ascends list (i + 1) ≡ ltb (letter_at list i) (letter_at list (i + 1))
ascends_next list i = rw (add-one i)

module _ (habit : Habit) (list : List ℕ) where
  entry_facts : (i : ℕ) → entry_sound habit list i ≡ true → EntryFacts habit list i
  unfolding entry_sound
  entry_facts i e =
      let t₁ : Bool = is_letter (letter_at list i) in
      let t₂ : Bool = letter_ascends list i in
      let t₃ : Bool = eqb (zero_at list i) 0 in
      let t₄ : Bool = within habit.fewest habit.most (count_at list i) in
      let h₄ = both (t₁ && t₂ && t₃ && t₄) (eqb (offset_at list i) (body_at habit list i)) e in
      let h₃ = both (t₁ && t₂ && t₃) t₄ h₄.0 in
      let h₂ = both (t₁ && t₂) t₃ h₃.0 in
      let h₁ = both t₁ t₂ h₂.0 in
      record {
        letter = (letter_exact (letter_at list i)).0 h₁.0;
        ascends = h₁.1;
        zero_byte = eqb-true (zero_at list i) 0 h₂.1;
        counts = within_facts habit.fewest habit.most (count_at list i) h₃.1;
        offset = eqb-true (offset_at list i) (body_at habit list i) h₄.1;
      }

  entry_holds : (i : ℕ) → EntryFacts habit list i → entry_sound habit list i ≡ true
  unfolding entry_sound
  entry_holds i h =
      let letter = (letter_exact (letter_at list i)).1 h.letter in
      let counts = within_holds habit.fewest habit.most (count_at list i) h.counts.0 h.counts.1 in
      rw (letter, h.ascends, eq-eqb (zero_at list i) 0 h.zero_byte, counts, eq-eqb (offset_at list i) (body_at habit list i) h.offset)

  -- the first body begins behind the contents
  body_first : body_at habit list 0 ≡ entry_at (segments_of list)
  body_first = rw (none_before list, mul-zero habit.key) (omega arith)

  -- the body of the last segment ends where the next would begin
  body_next : (i : ℕ) → i < segments_of list → body_at habit list (i + 1) ≡ body_at habit list i + habit.key * count_at list i
  body_next i h = rw (before_next list i h, mul-add habit.key (contracts_before list i) (count_at list i)) (omega arith)

module _ {habit : Habit} (list : List ℕ) where
  header_rules : header_sound_by habit list ≡ true → HeaderBy habit list
  unfolding header_sound_by
  header_rules e =
      let n : ℕ = segments_of list in
      let h₁ = both (within 1 most_segments n) (all_below n (entry_sound habit list) && eqb (length list) (body_at habit list n)) e in
      let h₂ = both (all_below n (entry_sound habit list)) (eqb (length list) (body_at habit list n)) h₁.1 in
      let few = within_facts 1 most_segments n h₁.0 in
      let entry : (i : ℕ) → i < n → EntryFacts habit list i = λ i h. entry_facts habit list i (each_passes (entry_sound habit list) n h₂.0 i h) in
      let size = eqb-true (length list) (body_at habit list n) h₂.1 in
      record {
        some_segments = few.0;
        few_segments = few.1;
        letters = λ i h. (entry i h).letter;
        letters_ascend = λ i h. ltb-true (letter_at list i) (letter_at list (i + 1)) (sym (ascends_next list i) ∙ (entry (i + 1) h).ascends);
        zero_bytes = λ i h. (entry i h).zero_byte;
        enough_keys = λ i h. (entry i h).counts.0;
        few_keys = λ i h. (entry i h).counts.1;
        first_body = omega (arith, (entry 0 few.0).offset, body_first habit list);
        next_body = λ i h. omega (arith, (entry i (omega arith)).offset, (entry (i + 1) h).offset, body_next habit list i (omega arith));
        file_ends = λ i h. omega (arith, ap (body_at habit list) h, size, (entry i (omega arith)).offset, body_next habit list i (omega arith));
      }

  -- each body begins where the contents and the bodies before it end
  pub body_begins : HeaderBy habit list → (i : ℕ) → i < segments_of list → offset_at list i ≡ body_at habit list i
  body_begins h zero l = omega (arith, h.first_body, body_first habit list)
  body_begins h (suc i) l =
      let next : offset_at list (suc i) ≡ offset_at list i + habit.key * count_at list i = rw (← add-one i) (h.next_body i (omega arith)) in
      let body : body_at habit list (suc i) ≡ body_at habit list i + habit.key * count_at list i = rw (← add-one i) (body_next habit list i (omega arith)) in
      omega (arith, body_begins h i (omega arith))

  -- and the file ends where all of them do
  pub size_is : HeaderBy habit list → length list ≡ body_at habit list (segments_of list)
  size_is h =
      let last : ℕ = segments_of list - 1 in
      let some = h.some_segments in
      let next : last + 1 ≡ segments_of list = omega arith in
      omega (arith, ap (body_at habit list) next, h.file_ends last next, body_begins h last (omega arith), body_next habit list last (omega arith))

  letters_ascending : HeaderBy habit list → (i : ℕ) → i < segments_of list → letter_ascends list i ≡ true
  letters_ascending h zero l = refl
  letters_ascending h (suc i) l =
      rw (← add-one i)
      (lt-ltb (letter_at list i) (letter_at list (i + 1)) (h.letters_ascend i (omega arith)))

  header_holds : HeaderBy habit list → header_sound_by habit list ≡ true
  unfolding header_sound_by
  header_holds h =
      let n : ℕ = segments_of list in
      let entry : (i : ℕ) → i < n → entry_sound habit list i ≡ true = λ i l. entry_holds habit list i (record {
        letter = h.letters i l;
        ascends = letters_ascending h i l;
        zero_byte = h.zero_bytes i l;
        counts = (h.enough_keys i l, h.few_keys i l);
        offset = body_begins h i l;
      }) in
      rw (within_holds 1 most_segments n h.some_segments h.few_segments, all_pass (entry_sound habit list) n entry, eq-eqb (length list) (body_at habit list n) (size_is h))

  -- 16 after start: the short check passes exactly when its rules hold
  pub header_exact : header_sound_by habit list ≡ true ↔ HeaderBy habit list
  header_exact = (header_rules, header_holds)

  -- every key lies inside the file
  pub key_inside : HeaderBy habit list → (i k : ℕ) → i < segments_of list → k < count_at list i → key_at habit list i k + habit.key ≤ length list
  key_inside h i k l m =
      let upto : habit.key * (k + 1) ≤ habit.key * count_at list i = mul-le-mul_left habit.key (omega arith) in
      let all : habit.key * (contracts_before list i + count_at list i) ≤ habit.key * contracts_of list =
      mul-le-mul_left habit.key (before_reaches list i l) in
      omega (arith, rw (mul-add habit.key k 1, mul-one habit.key) at upto, rw (mul-add habit.key (contracts_before list i) (count_at list i)) at all, body_begins h i l, size_is h)

  pub key_length : HeaderBy habit list → (i k : ℕ) → i < segments_of list → k < count_at list i → length (key_by habit list i k) ≡ habit.key
  key_length h i k l m = whole_key list habit.key (key_at habit list i k) (key_inside h i k l m)

  pub contracts_few : HeaderBy habit list → contracts_of list ≤ most_segments * habit.most
  contracts_few h =
      let n : ℕ = segments_of list in
      let few = h.few_segments in
      let sum = sum_under (count_at list) n habit.most h.few_keys in
      rw (before_sum list n (omega arith)) (omega (arith, mul-le-mul_right {m = n} {n = most_segments} habit.most few))

  -- no two segments have one letter
  pub letters_apart : HeaderBy habit list → (i j : ℕ) → i < segments_of list → j < segments_of list → letter_at list i ≡ letter_at list j → i ≡ j
  letters_apart h i j l m e =
      let up : (a b : ℕ) → a < b → b < segments_of list → letter_at list a < letter_at list b =
      climbs (λ a b. letter_at list a < letter_at list b) (λ a b c p q. omega arith) (segments_of list) h.letters_ascend in
      ⊎_elim (λ (k : i < j). absurd (omega (arith, up i j k m)))
      (⊎_elim (λ (k : j < i). absurd (omega (arith, up j i k l))) (λ (k : i ≡ j). k))
      (three i j)
