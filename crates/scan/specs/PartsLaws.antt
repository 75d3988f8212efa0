-- What the parts of the walk pass, one character after another, and what the text is by the places that they come to.
use Rattle.std.specs.Prelude.{◌≡◌, ℕ, suc, ◌+◌, ◌-◌, ◌*◌, ◌^◌, ◌<◌, ◌≤◌, Bool, true, false, not, ◌&&◌, List, [], ◌∷◌, map, length, drop, replicate, ◌==◌, ◌≢◌, slice_index, Ok, Err}
use Rattle.std.proofs.Math.Path.{refl}
use Rattle.std.proofs.Common.{sym, ◌∙◌, ap, ⊎_elim, mul-one, add-zero, zero-add, zero-mul, add-one, arith, drop_of_length-le, drop-cons, lt-ltb, le-ltb, eqb-true}
use Rattle.std.proofs.lemmas.Bool.{false≢true, not-true}
use Rattle.std.proofs.Math.Nat.{one-le-pow}
use Rattle.std.proofs.lemmas.List.{length-map}
use Rattle.laws.specs.Order.{order, same}
use Rattle.laws.specs.Tests.{both}
use Rattle.decimal.specs.Denotes.{space, point, minus_char, digit_char, value}
use Rattle.decimal.specs.declared.Kind.{Kind}
use Rattle.scan.specs.CapLaws.{cap_grown, ranged_cap}
use Rattle.scan.specs.DigitLaws.{followed_cons}
use Rattle.scan.specs.Parts.{
  cap,
  followed,
  NoSpace,
  NoDigit,
  Passed,
  PassedSpaces,
  PassedDigits,
  point_at,
  read_on,
  begun,
  WantsDigit,
}
use Rattle.scan.specs.Read.{
  State,
  Before,
  Minus,
  Whole,
  Pointed,
  Fraction,
  Behind,
  Bad,
  on_space,
  step,
  ranged,
  with_sign,
  answer,
  read_as,
}
use Rattle.scan.specs.WalkLaws.{
  before_bad,
  behind_bad,
  digits_begin,
  digits_pointed,
  fraction_behind,
  minus_bad,
  pointed_bad,
  spaces_stay,
  step_minus,
  step_point,
  step_space,
  walk_bad,
  walk_cons,
  walk_nil,
  whole_behind,
}
use Rattle.decimal.specs.declared.FieldFault.TheVariants.{Malformed}
use Rattle.decimal.specs.declared.Held.TheVariants.{Nothing, Units, Below}
use Rattle.scan.specs.Answers.{Number}
use Rattle.scan.specs.declared.text.Walked.{Walked}

-- ## Amounts up to the ceiling

cap_followed : (n : ℕ) (ds : List ℕ) → cap (followed (cap n) ds) ≡ cap (followed n ds)
cap_followed n ds = cap_grown n (10 ^ length ds) (value ds) (one-le-pow (length ds) 10 (omega arith))

followed_alike : (n m : ℕ) (ds : List ℕ) → cap n ≡ cap m → cap (followed n ds) ≡ cap (followed m ds)
followed_alike n m ds e = sym (cap_followed n ds) ∙ rw e (cap_followed m ds)

ranged_alike : (kind : Kind) → kind.most + 1 < 2 ^ 64 → (n m k : ℕ) → cap n ≡ cap m → ranged kind n k ≡ ranged kind m k
ranged_alike kind small n m k e = sym (ranged_cap kind small n k) ∙ rw e (ranged_cap kind small m k)

-- ## Passing

module _ (Other : ℕ → Type 0) (text : List ℕ) where
  passed_none : (at : ℕ) → (at < length text → Other (slice_index text at)) → Passed Other text [] at at
  passed_none at other = record { counted = sym (add-zero at); passed = refl; stops = other }

  passed_one : (c : ℕ) (chars : List ℕ) (from at : ℕ) → from < length text → slice_index text from ≡ c → Passed Other text chars (from + 1) at
      → Passed Other text (c ∷ chars) from at
  passed_one c chars from at l e h =
      record {
        counted = omega (arith, h.counted);
        passed = drop-cons text from 0 l ∙ rw (e, ← add-one from) (ap (λ (rest : List ℕ). c ∷ rest) h.passed);
        stops = h.stops;
      }

module _ (text : List ℕ) where
  pub spaces_none : (at : ℕ) → (at < length text → NoSpace (slice_index text at)) → PassedSpaces text at at
  spaces_none at other = (0, passed_none NoSpace text at other)

  pub spaces_one : (from at : ℕ) → from < length text → slice_index text from ≡ space → PassedSpaces text (from + 1) at → PassedSpaces text from at
  spaces_one from at l e h = (suc h.0, passed_one NoSpace text space (replicate h.0 space) from at l e h.1)

  pub digits_none : (at n : ℕ) → (at < length text → NoDigit (slice_index text at)) → PassedDigits text at n (record { at = at; amount = n })
  digits_none at n other =
      record {
        digits = [];
        are_digits = tt;
        passed = passed_none NoDigit text at other;
        grown = simp (mul-one, add-zero);
      }

  pub digits_one : (from n d a : ℕ) (to : Walked) → from < length text → d < 10 → slice_index text from ≡ digit_char d → cap a ≡ cap (n * 10 + d)
      → PassedDigits text (from + 1) a to → PassedDigits text from n to
  digits_one from n d a to l small e g h =
      let ds : List ℕ = h.digits in
      record {
        digits = d ∷ ds;
        are_digits = (small, h.are_digits);
        passed = passed_one NoDigit text (digit_char d) (map digit_char ds) from to.at l e h.passed;
        grown = h.grown ∙ followed_alike a (n * 10 + d) ds g ∙ ap cap (followed_cons n d ds);
      }

some_digits : (text : List ℕ) (from n : ℕ) (to : Walked) → (h : PassedDigits text from n to) → (to.at ≢ from) → 0 < length h.digits
some_digits text from n to h some =
    ⊎_elim (λ (l : 1 ≤ length h.digits). l)
    (λ (l : length h.digits < 1). absurd (some (omega (arith, h.passed.counted, length-map h.digits digit_char))))
    (order 1 (length h.digits))

pub point_there : (places : ℕ) (text : List ℕ) (at : ℕ) → point_at places text at ≡ true
    → (at < length text) × ((places == 0) ≡ false) × (slice_index text at ≡ point)
unfolding point_at
point_there places text at e = ⊎_elim
    (λ (l : length text ≤ at). absurd (false≢true (rw (le-ltb at (length text) l) at e)))
    (λ (l : at < length text).
    let tests = both (not (places == 0)) (slice_index text at == point) (rw (lt-ltb at (length text) l) at e) in
    (l, not-true (places == 0) tests.0, eqb-true (slice_index text at) point tests.1))
    (order (length text) at)

-- ## Reading on from a place

-- no sign leaves a number as it is
pub no_sign : (r : Number) → with_sign false r ≡ r
no_sign (Ok Nothing) = refl
no_sign (Ok (Units n)) = refl
no_sign (Ok (Below n)) = refl
no_sign (Err fault) = refl

-- behind the last digit an amount is told by what it reads as
behind_alike : (kind : Kind) (minus : Bool) (n m k : ℕ) → ranged kind n k ≡ ranged kind m k
    → (t : List ℕ) → read_on kind (Behind minus n k) t ≡ read_on kind (Behind minus m k) t
behind_alike kind minus n m k e [] = simp walk_nil (ap (with_sign minus) e)
behind_alike kind minus n m k e (c ∷ t) = ⊎_elim
    (λ (s : c ≡ space). simp (walk_cons, s, step_space) (behind_alike kind minus n m k e t))
    (λ (ns : NoSpace c). simp (walk_cons, behind_bad kind minus n k c ns, behind_bad kind minus m k c ns))
    (same c space)

module _ (kind : Kind) (text : List ℕ) where
  -- what the text is, by what was read of it and the place that was come to
  abbrev pub on_from : State → ℕ → Number
  on_from s at = read_on kind s (drop at text)

  next : (s : State) (at : ℕ) → at < length text → on_from s at ≡ on_from (step kind s (slice_index text at)) (at + 1)
  next s at l = rw (drop-cons text at 0 l, walk_cons, add-one)

  ended : (s : State) (at : ℕ) → length text ≤ at → on_from s at ≡ answer kind s
  ended s at h = rw (drop_of_length-le text h, walk_nil)

  malformed : (s : State) (at : ℕ) → at < length text → step kind s (slice_index text at) ≡ Bad → on_from s at ≡ Err Malformed
  malformed s at l e = next s at l ∙ rw (e, walk_bad)

  alike : (s s' : State) (at : ℕ) → answer kind s ≡ answer kind s'
      → (at < length text → step kind s (slice_index text at) ≡ step kind s' (slice_index text at)) → on_from s at ≡ on_from s' at
  alike s s' at end more = ⊎_elim
      (λ (l : length text ≤ at). ended s at l ∙ end ∙ sym (ended s' at l))
      (λ (l : at < length text). next s at l ∙ rw (more l) (sym (next s' at l)))
      (order (length text) at)

  -- where neither the end nor another character than a digit is expected
  wants_digit : (s : State) → answer kind s ≡ Err Malformed → ((c : ℕ) → NoDigit c → step kind s c ≡ Bad)
      → (at : ℕ) → (at < length text → NoDigit (slice_index text at)) → on_from s at ≡ Err Malformed
  wants_digit s end bad at other = ⊎_elim
      (λ (l : length text ≤ at). ended s at l ∙ end)
      (λ (l : at < length text). malformed s at l (bad (slice_index text at) (other l)))
      (order (length text) at)

  past_spaces : (s : State) → on_space s ≡ s → (from at : ℕ) → PassedSpaces text from at → on_from s from ≡ on_from s at
  past_spaces s stay from at h = rw (h.1.passed, spaces_stay kind s stay h.0 (drop at text))

  pub behind_ended : (minus : Bool) (n k from at : ℕ) → PassedSpaces text from at → length text ≤ at
      → on_from (Behind minus n k) from ≡ with_sign minus (ranged kind n k)
  behind_ended minus n k from at h l = past_spaces (Behind minus n k) refl from at h ∙ ended (Behind minus n k) at l

  pub behind_malformed : (minus : Bool) (n k from at : ℕ) → PassedSpaces text from at → at < length text
      → on_from (Behind minus n k) from ≡ Err Malformed
  behind_malformed minus n k from at h l =
      past_spaces (Behind minus n k) refl from at h
      ∙ malformed (Behind minus n k) at l (behind_bad kind minus n k (slice_index text at) (h.1.stops l))

  -- ## The text, by the place of its first character that is no space

  module _ (first : ℕ) (spaces : PassedSpaces text 0 first) where
    pub reads_first : read_as kind text ≡ on_from Before first
    unfolding read_as
    reads_first = past_spaces Before refl 0 first spaces

    pub reads_none : length text ≤ first → read_as kind text ≡ Ok Nothing
    reads_none l = reads_first ∙ ended Before first l

    pub reads_minus : first < length text → kind.signed && (slice_index text first == minus_char) ≡ true
        → read_as kind text ≡ on_from Minus (first + 1)
    reads_minus l e =
        let tests = both kind.signed (slice_index text first == minus_char) e in
        reads_first ∙ next Before first l ∙ rw (eqb-true (slice_index text first) minus_char tests.1, step_minus, tests.0)

    pub first_wants : first < length text → kind.signed && (slice_index text first == minus_char) ≡ false
        → WantsDigit kind text first false
    first_wants l e other = malformed Before first l (before_bad kind (slice_index text first) (spaces.1.stops l) e (other l))

  pub minus_wants : (at : ℕ) → WantsDigit kind text at true
  minus_wants at other = wants_digit Minus refl (minus_bad kind) at other

  -- ## The rest of it, by the places that its parts come to

  module _ (minus : Bool) (first : ℕ) (whole : Walked) (w : PassedDigits text first 0 whole) where
    pub reads_no_digit : WantsDigit kind text first minus → whole.at ≡ first → on_from (begun minus) first ≡ Err Malformed
    reads_no_digit wants e = wants (rw e at w.passed.stops)

    module _ (small : kind.most + 1 < 2 ^ 64) (some : whole.at ≡ first → ⊥) where
      abbrev n : ℕ
      n = value w.digits

      at_whole : on_from (begun minus) first ≡ on_from (Whole minus n) whole.at
      at_whole =
          let some_whole = some_digits text first 0 whole w some in
          rw (w.passed.passed, digits_begin kind minus w.digits (drop whole.at text) some_whole w.are_digits)

      alike_whole : cap whole.amount ≡ cap n
      alike_whole = w.grown ∙ simp (zero-mul, zero-add)

      pub reads_whole : point_at kind.places text whole.at ≡ false
          → on_from (begun minus) first ≡ on_from (Behind minus whole.amount 0) whole.at
      unfolding point_at
      reads_whole e =
          let no_point : whole.at < length text → not (kind.places == 0) && (slice_index text whole.at == point) ≡ false =
          λ l. rw (lt-ltb whole.at (length text) l) at e in
          at_whole
          ∙ alike (Whole minus n) (Behind minus n 0) whole.at refl
          (λ l. whole_behind kind minus n (slice_index text whole.at) (w.passed.stops l) (no_point l))
          ∙ behind_alike kind minus n whole.amount 0
          (ranged_alike kind small n whole.amount 0 (sym alike_whole)) (drop whole.at text)

      module _
          (there : point_at kind.places text whole.at ≡ true)
          (fraction : Walked)
          (f : PassedDigits text (whole.at + 1) whole.amount fraction) where
        abbrev from : ℕ
        from = whole.at + 1

        abbrev ds : List ℕ
        ds = f.digits

        at_point : on_from (begun minus) first ≡ on_from (Pointed minus n) from
        at_point =
            let told = point_there kind.places text whole.at there in
            at_whole ∙ next (Whole minus n) whole.at told.0 ∙ rw (told.2, step_point, told.1)

        pub reads_no_fraction : fraction.at ≡ from → on_from (begun minus) first ≡ Err Malformed
        reads_no_fraction e =
            at_point ∙ wants_digit (Pointed minus n) refl (pointed_bad kind minus n) from (rw e at f.passed.stops)

        at_fraction : (fraction.at ≢ from)
            → on_from (begun minus) first ≡ on_from (Fraction minus (followed n ds) (length ds)) fraction.at
        at_fraction more =
            let some_behind = some_digits text from whole.amount fraction f more in
            at_point ∙ rw (f.passed.passed, digits_pointed kind minus n ds (drop fraction.at text) some_behind f.are_digits)

        pub reads_fraction : (fraction.at ≢ from)
            → on_from (begun minus) first ≡ on_from (Behind minus fraction.amount (fraction.at - from)) fraction.at
        reads_fraction more =
            let m : ℕ = followed n ds in
            let k : length ds ≡ fraction.at - from = omega (arith, f.passed.counted, length-map ds digit_char) in
            let same_amount : cap m ≡ cap fraction.amount =
            followed_alike n whole.amount ds (sym alike_whole) ∙ sym f.grown in
            at_fraction more
            ∙ alike (Fraction minus m (length ds)) (Behind minus m (length ds)) fraction.at refl
            (λ l. fraction_behind kind minus m (length ds) (slice_index text fraction.at) (f.passed.stops l))
            ∙ behind_alike kind minus m fraction.amount (length ds)
            (ranged_alike kind small m fraction.amount (length ds) same_amount) (drop fraction.at text)
            ∙ rw k
