-- What characters do one after another, and what a text of the shape reads as.
use Rattle.std.specs.Prelude.{◌≡◌, ℕ, zero, suc, ◌+◌, ◌-◌, ◌*◌, ◌^◌, ◌<◌, ◌≤◌, Bool, true, false, cond, not, ◌&&◌, List, [], ◌∷◌, ◌++◌, map, length, replicate, ◌==◌, ◌≢◌, nat_le, Ok, Err}
use Rattle.std.proofs.Math.Path.{refl, ap}
use Rattle.std.proofs.Common.{◌∙◌, true≢false, inl, inr, ⊎_elim, le-leb, ne_eqb, mul-one, add-zero, one-add, arith}
use Rattle.std.proofs.Math.Nat.{add-sub_cancel_left}
use Rattle.std.proofs.lemmas.Bool.{lt-leb}
use Rattle.laws.specs.Choice.{cond_same}
use Rattle.laws.specs.Order.{order}
use Rattle.decimal.specs.Denotes.{space, point, minus_char, digit_char, value, Digits, pointed, sign, Shape, units, AllSpaces}
use Rattle.scan.specs.DigitLaws.{followed_cons, followed_scaled}
use Rattle.scan.specs.Parts.{followed, NoSpace, NoDigit, begun}
use Rattle.scan.specs.Read.{
  State,
  Before,
  Minus,
  Whole,
  Pointed,
  Fraction,
  Behind,
  Bad,
  is_digit,
  read_as,
  on_space,
  on_minus,
  on_point,
  on_digit,
  step,
  walk,
  in_range,
  ranged,
  with_sign,
  answer,
}
use Rattle.decimal.specs.declared.Kind.{Kind}
use Rattle.decimal.specs.declared.FieldFault.TheVariants.{OutOfRange}
use Rattle.decimal.specs.declared.Held.TheVariants.{Nothing}
use Rattle.scan.specs.Answers.{Number}

no_digit : (c : ℕ) → NoDigit c → is_digit c ≡ false
no_digit c (inl low) = simp (lt-leb (digit_char 0) c low)
no_digit c (inr high) = simp (lt-leb c (digit_char 9) high, cond_same)

-- a character that the kind has not, or another
kept_out : (has is : Bool) (x y : State) → has && is ≡ false → cond is (cond has x Bad) y ≡ cond is Bad y
kept_out true true x y e = absurd (true≢false e)
kept_out true false x y e = refl
kept_out false is x y e = refl

begun_digit : (minus : Bool) (d : ℕ) → on_digit (begun minus) d ≡ Whole minus d
begun_digit true d = refl
begun_digit false d = refl

module _ (kind : Kind) where
  -- ## What a character does

  pub step_space : (s : State) → step kind s space ≡ on_space s
  unfolding step
  step_space s = refl

  pub step_minus : (s : State) → step kind s minus_char ≡ on_minus kind s
  unfolding step
  step_minus s = refl

  pub step_point : (s : State) → step kind s point ≡ on_point kind s
  unfolding step
  step_point s = refl

  pub step_digit : (s : State) (d : ℕ) → d < 10 → step kind s (digit_char d) ≡ on_digit s d
  unfolding step
  step_digit s d h =
      simp (
        ne_eqb (digit_char d) space (λ e. omega arith),
        ne_eqb (digit_char d) minus_char (λ e. omega arith),
        ne_eqb (digit_char d) point (λ e. omega arith),
        le-leb (digit_char 0) (digit_char d) (omega arith),
        le-leb (digit_char d) (digit_char 9) (omega arith),
        add-sub_cancel_left,
      )

  pub step_other : (s : State) (c : ℕ) → (c ≢ space) → (c ≢ minus_char) → (c ≢ point) → NoDigit c → step kind s c ≡ Bad
  unfolding step
  step_other s c ns nm np nd = simp (ne_eqb c space ns, ne_eqb c minus_char nm, ne_eqb c point np, no_digit c nd)

  step_bad : (c : ℕ) → step kind Bad c ≡ Bad
  unfolding step
  step_bad c = simp cond_same

  -- the first digit may not be missing, neither before the point nor behind it
  pub before_bad : (c : ℕ) → NoSpace c → kind.signed && (c == minus_char) ≡ false → NoDigit c → step kind Before c ≡ Bad
  unfolding step
  before_bad c ns nm nd =
      rw (
        ne_eqb c space ns,
        no_digit c nd,
        cond_same (c == point) Bad,
        kept_out kind.signed (c == minus_char) Minus Bad nm,
        cond_same,
      )

  pub minus_bad : (c : ℕ) → NoDigit c → step kind Minus c ≡ Bad
  unfolding step
  minus_bad c nd = simp (no_digit c nd, cond_same)

  pub pointed_bad : (minus : Bool) (n c : ℕ) → NoDigit c → step kind (Pointed minus n) c ≡ Bad
  unfolding step
  pointed_bad minus n c nd = simp (no_digit c nd, cond_same)

  -- behind the last digit nothing but spaces may stand
  pub behind_bad : (minus : Bool) (n k c : ℕ) → NoSpace c → step kind (Behind minus n k) c ≡ Bad
  unfolding step
  behind_bad minus n k c ns = simp (ne_eqb c space ns, cond_same)

  -- what is no digit stands behind the last one
  pub fraction_behind : (minus : Bool) (n k c : ℕ) → NoDigit c → step kind (Fraction minus n k) c ≡ step kind (Behind minus n k) c
  unfolding step
  fraction_behind minus n k c nd = simp (no_digit c nd)

  pub whole_behind : (minus : Bool) (n c : ℕ) → NoDigit c → not (kind.places == 0) && (c == point) ≡ false
      → step kind (Whole minus n) c ≡ step kind (Behind minus n 0) c
  unfolding step
  whole_behind minus n c nd np = rw (no_digit c nd, kept_out (not (kind.places == 0)) (c == point) (Pointed minus n) Bad np)

  -- ## What a run of characters does

  pub walk_cons : (s : State) (c : ℕ) (t : List ℕ) → walk kind s (c ∷ t) ≡ walk kind (step kind s c) t
  unfolding walk
  walk_cons s c t = refl

  pub walk_nil : (s : State) → walk kind s [] ≡ s
  unfolding walk
  walk_nil s = refl

  pub walk_bad : (t : List ℕ) → walk kind Bad t ≡ Bad
  walk_bad [] = walk_nil Bad
  walk_bad (c ∷ t) = rw (walk_cons, step_bad) (walk_bad t)

  -- spaces where spaces may stand
  pub spaces_stay : (s : State) → on_space s ≡ s → (k : ℕ) (t : List ℕ) → walk kind s (replicate k space ++ t) ≡ walk kind s t
  spaces_stay s stay zero t = refl
  spaces_stay s stay (suc k) t = rw (walk_cons, step_space, stay) (spaces_stay s stay k t)

  -- the sign, where the kind has it
  sign_begins : (minus : Bool) → (minus ≡ true → kind.signed ≡ true) → (t : List ℕ)
      → walk kind Before (sign minus ++ t) ≡ walk kind (begun minus) t
  sign_begins true may t = rw (walk_cons, step_minus, may refl)
  sign_begins false may t = refl

  module _ (minus : Bool) where
    digits_whole : (n : ℕ) (ds t : List ℕ) → Digits ds
        → walk kind (Whole minus n) (map digit_char ds ++ t) ≡ walk kind (Whole minus (followed n ds)) t
    digits_whole n [] t h = simp (mul-one, add-zero)
    digits_whole n (d ∷ ds) t h =
        rw (walk_cons, step_digit (Whole minus n) d h.0, ← followed_cons n d ds)
        (digits_whole (n * 10 + d) ds t h.1)

    pub digits_begin : (ds t : List ℕ) → 0 < length ds → Digits ds
        → walk kind (begun minus) (map digit_char ds ++ t) ≡ walk kind (Whole minus (value ds)) t
    digits_begin [] t some h = absurd (omega arith)
    digits_begin (d ∷ ds) t some h = rw (walk_cons, step_digit (begun minus) d h.0, begun_digit) (digits_whole d ds t h.1)

    digits_fraction : (n k : ℕ) (ds t : List ℕ) → Digits ds
        → walk kind (Fraction minus n k) (map digit_char ds ++ t) ≡ walk kind (Fraction minus (followed n ds) (k + length ds)) t
    digits_fraction n k [] t h = simp (mul-one, add-zero)
    digits_fraction n k (d ∷ ds) t h =
        let one_more : k + length (d ∷ ds) ≡ k + 1 + length ds = omega arith in
        rw (walk_cons, step_digit (Fraction minus n k) d h.0, ← followed_cons n d ds, one_more)
        (digits_fraction (n * 10 + d) (k + 1) ds t h.1)

    pub digits_pointed : (n : ℕ) (ds t : List ℕ) → 0 < length ds → Digits ds
        → walk kind (Pointed minus n) (map digit_char ds ++ t) ≡ walk kind (Fraction minus (followed n ds) (length ds)) t
    digits_pointed n [] t some h = absurd (omega arith)
    digits_pointed n (d ∷ ds) t some h =
        rw (walk_cons, step_digit (Pointed minus n) d h.0)
        (digits_fraction (n * 10 + d) 1 ds t h.1 ∙ rw (followed_cons n d ds, one-add))

-- ## What a text of the shape reads as

module _ (kind : Kind) where
  -- too fine, or so many units
  abbrev pub sized : {t : List ℕ} → Shape kind t → Number
  sized s = cond (nat_le (length s.fraction) kind.places) (in_range kind (units s)) (Err OutOfRange)

  answer_space : (s : State) → answer kind (on_space s) ≡ answer kind s
  answer_space Before = refl
  answer_space Minus = refl
  answer_space (Whole minus n) = refl
  answer_space (Pointed minus n) = refl
  answer_space (Fraction minus n k) = refl
  answer_space (Behind minus n k) = refl
  answer_space Bad = refl

  spaces_behind : (s : State) (k : ℕ) → answer kind (walk kind s (replicate k space)) ≡ answer kind s
  spaces_behind s zero = rw walk_nil
  spaces_behind s (suc k) = rw (walk_cons, step_space) (spaces_behind (on_space s) k ∙ answer_space s)

  fraction_reads : (minus : Bool) (n k : ℕ) (ds : List ℕ) → Digits ds → (0 < length ds → 0 < kind.places)
      → answer kind (walk kind (Whole minus n) (pointed ds ++ replicate k space))
      ≡ with_sign minus (ranged kind (followed n ds) (length ds))
  fraction_reads minus n k [] h may = spaces_behind (Whole minus n) k ∙ simp (mul-one, add-zero)
  fraction_reads minus n k (d ∷ ds) h may =
      let some : 0 < kind.places = may (omega arith) in
      rw (
        walk_cons,
        step_point,
        ne_eqb kind.places 0 (λ e. omega arith),
        digits_pointed kind minus n (d ∷ ds) (replicate k space) (omega arith) h,
        spaces_behind,
      )

  ranged_sized : (n : ℕ) (ds : List ℕ)
      → ranged kind (followed n ds) (length ds)
      ≡ cond (nat_le (length ds) kind.places) (in_range kind (n * 10 ^ kind.places + value ds * 10 ^ (kind.places - length ds))) (Err OutOfRange)
  ranged_sized n ds = ⊎_elim
      (λ (h : length ds ≤ kind.places). rw (followed_scaled n kind.places ds h))
      (λ (h : kind.places < length ds). rw (lt-leb (length ds) kind.places h))
      (order (length ds) kind.places)

  pub shape_reads : (t : List ℕ) (s : Shape kind t) → read_as kind t ≡ with_sign s.minus (sized s)
  unfolding read_as
  shape_reads t s =
      let rest : List ℕ = pointed s.fraction ++ replicate s.behind space in
      let number : List ℕ = map digit_char s.whole ++ rest in
      ap (read_as kind) s.laid_out
      ∙ ap (answer kind)
      (spaces_stay kind Before refl s.before (sign s.minus ++ number)
      ∙ sign_begins kind s.minus s.may_minus number
      ∙ digits_begin kind s.minus s.whole rest s.some_digit s.whole_digits)
      ∙ fraction_reads s.minus (value s.whole) s.behind s.fraction s.fraction_digits s.may_point
      ∙ ap (with_sign s.minus) (ranged_sized (value s.whole) s.fraction)

  pub spaces_read : (t : List ℕ) → AllSpaces t → read_as kind t ≡ Ok Nothing
  unfolding read_as
  spaces_read t h = ap (read_as kind) h ∙ spaces_behind Before (length t)
