-- Where a text was read well, it has the shape.
use Rattle.std.specs.Prelude.{◌≡◌, ℕ, zero, suc, ◌-◌, ◌<◌, ◌≤◌, Bool, true, false, cond, not, ◌⊎◌, List, [], ◌∷◌, ◌++◌, map, length, replicate, ◌==◌, ◌≢◌, refl}
use Rattle.std.proofs.Common.{ap, inl, inr, arith}
use Rattle.std.proofs.lemmas.Bool.{false≢true}
use Rattle.std.proofs.Math.Dec.{eqb-suc-zero}
use Rattle.laws.specs.Order.{order, same}
use Rattle.decimal.specs.Denotes.{space, point, minus_char, digit_char, Digits, pointed, sign, Shape}
use Rattle.decimal.specs.declared.Kind.{Kind}
use Rattle.scan.specs.Parts.{NoDigit}
use Rattle.scan.specs.Read.{
  State,
  Before,
  Minus,
  Whole,
  Pointed,
  Fraction,
  Behind,
  Bad,
  on_space,
  on_minus,
  on_point,
  on_digit,
  step,
  walk,
}
use Rattle.scan.specs.WalkLaws.{step_space, step_minus, step_point, step_digit, step_other, walk_cons, walk_nil}

-- what a character is
data Sort (c : ℕ) : Type 0 where
  a_space : c ≡ space → Sort c
  a_minus : c ≡ minus_char → Sort c
  a_point : c ≡ point → Sort c
  a_digit : (d : ℕ) → d < 10 → c ≡ digit_char d → Sort c
  another : ((kind : Kind) (s : State) → step kind s c ≡ Bad) → Sort c

sort : (c : ℕ) → Sort c
sort c = go (same c space) (same c minus_char) (same c point) (order (digit_char 0) c) (order c (digit_char 9))
  where
    other : (c ≢ space) → (c ≢ minus_char) → (c ≢ point) → NoDigit c → Sort c
    other ns nm np nd = another (λ kind s. step_other kind s c ns nm np nd)

    go : (c ≡ space) ⊎ (c ≢ space) → (c ≡ minus_char) ⊎ (c ≢ minus_char) → (c ≡ point) ⊎ (c ≢ point)
        → (digit_char 0 ≤ c) ⊎ (c < digit_char 0) → (c ≤ digit_char 9) ⊎ (digit_char 9 < c) → Sort c
    go (inl e) m p l h = a_space e
    go (inr ns) (inl e) p l h = a_minus e
    go (inr ns) (inr nm) (inl e) l h = a_point e
    go (inr ns) (inr nm) (inr np) (inl low) (inl high) = a_digit (c - digit_char 0) (omega arith) (omega arith)
    go (inr ns) (inr nm) (inr np) (inl low) (inr high) = other ns nm np (inr high)
    go (inr ns) (inr nm) (inr np) (inr low) h = other ns nm np (inl low)

-- the rest of a text: behind the last digit, behind the point, and behind the first digit
abbrev pub Spaces : List ℕ → Type 0
Spaces t = (k : ℕ) × (t ≡ replicate k space)

pub record Tail (t : List ℕ) : Type 0 where
  pub digits : List ℕ
  pub behind : ℕ
  pub are_digits : Digits digits
  pub laid_out : t ≡ map digit_char digits ++ replicate behind space

pub record Left (kind : Kind) (t : List ℕ) : Type 0 where
  pub whole : List ℕ
  pub fraction : List ℕ
  pub behind : ℕ
  pub whole_digits : Digits whole
  pub fraction_digits : Digits fraction
  pub may_point : 0 < length fraction → 0 < kind.places
  pub laid_out : t ≡ map digit_char whole ++ (pointed fraction ++ replicate behind space)

-- where a text ends well that was begun so, what the rest of it is
abbrev pub Ends : Kind → State → List ℕ → Type 0
Ends kind Before t = Spaces t ⊎ Shape kind t
Ends kind Minus t = (h : Left kind t) × (0 < length h.whole)
Ends kind (Whole minus n) t = Left kind t
Ends kind (Pointed minus n) t = (h : Tail t) × (0 < length h.digits)
Ends kind (Fraction minus n k) t = Tail t
Ends kind (Behind minus n k) t = Spaces t
Ends kind Bad t = ⊥

spaces_space : {t : List ℕ} → Spaces t → Spaces (space ∷ t)
spaces_space h = (suc h.0, ap (λ (r : List ℕ). space ∷ r) h.1)

tail_spaces : {t : List ℕ} → Spaces t → Tail t
tail_spaces h = record { digits = []; behind = h.0; are_digits = tt; laid_out = h.1 }

tail_digit : {d : ℕ} {t : List ℕ} → d < 10 → Tail t → (h : Tail (digit_char d ∷ t)) × (0 < length h.digits)
tail_digit {d} l h = (
  record {
    digits = d ∷ h.digits;
    behind = h.behind;
    are_digits = (l, h.are_digits);
    laid_out = ap (λ (r : List ℕ). digit_char d ∷ r) h.laid_out;
  },
  omega arith,
)

left_spaces : (kind : Kind) {t : List ℕ} → Spaces t → Left kind t
left_spaces kind h =
    record {
      whole = [];
      fraction = [];
      behind = h.0;
      whole_digits = tt;
      fraction_digits = tt;
      may_point = λ some. absurd (omega arith);
      laid_out = h.1;
    }

pointed_some : (ds : List ℕ) → 0 < length ds → pointed ds ≡ point ∷ map digit_char ds
pointed_some [] some = absurd (omega arith)
pointed_some (d ∷ ds) some = refl

left_point : {kind : Kind} {t : List ℕ} → 0 < kind.places → (h : Tail t) → 0 < length h.digits → Left kind (point ∷ t)
left_point may h some =
    record {
      whole = [];
      fraction = h.digits;
      behind = h.behind;
      whole_digits = tt;
      fraction_digits = h.are_digits;
      may_point = λ _. may;
      laid_out = rw (pointed_some h.digits some) (ap (λ (r : List ℕ). point ∷ r) h.laid_out);
    }

left_digit : {kind : Kind} {d : ℕ} {t : List ℕ} → d < 10 → Left kind t → (h : Left kind (digit_char d ∷ t)) × (0 < length h.whole)
left_digit {d = d} l h = (
  record {
    whole = d ∷ h.whole;
    fraction = h.fraction;
    behind = h.behind;
    whole_digits = (l, h.whole_digits);
    fraction_digits = h.fraction_digits;
    may_point = h.may_point;
    laid_out = ap (λ (r : List ℕ). digit_char d ∷ r) h.laid_out;
  },
  omega arith,
)

-- its sign in front of it, and spaces in front of that
shape_left : {kind : Kind} {t : List ℕ} → (minus : Bool) → (minus ≡ true → kind.signed ≡ true)
    → (h : Left kind t) → 0 < length h.whole → Shape kind (sign minus ++ t)
shape_left minus may h some =
    record {
      before = 0;
      minus = minus;
      whole = h.whole;
      fraction = h.fraction;
      behind = h.behind;
      some_digit = some;
      whole_digits = h.whole_digits;
      fraction_digits = h.fraction_digits;
      may_minus = may;
      may_point = h.may_point;
      laid_out = ap (λ (r : List ℕ). sign minus ++ r) h.laid_out;
    }

shape_space : {kind : Kind} {t : List ℕ} → Shape kind t → Shape kind (space ∷ t)
shape_space h =
    record {
      before = suc h.before;
      minus = h.minus;
      whole = h.whole;
      fraction = h.fraction;
      behind = h.behind;
      some_digit = h.some_digit;
      whole_digits = h.whole_digits;
      fraction_digits = h.fraction_digits;
      may_minus = h.may_minus;
      may_point = h.may_point;
      laid_out = ap (λ (r : List ℕ). space ∷ r) h.laid_out;
    }

module _ (kind : Kind) (t : List ℕ) where
  before_minus : (signed : Bool) → kind.signed ≡ signed → Ends kind (cond signed Minus Bad) t → Shape kind (minus_char ∷ t)
  before_minus true e h = shape_left true (λ _. e) h.0 h.1
  before_minus false e h = absurd h

  whole_point : (minus : Bool) (n places : ℕ) → kind.places ≡ places
      → Ends kind (cond (not (places == 0)) (Pointed minus n) Bad) t → Left kind (point ∷ t)
  whole_point minus n zero e h = absurd h
  whole_point minus n (suc places) e h =
      let h' : Ends kind (Pointed minus n) t = rw (eqb-suc-zero places) at h in
      left_point (omega arith) h'.0 h'.1

  ends_space : (s : State) → Ends kind (on_space s) t → Ends kind s (space ∷ t)
  ends_space Before (inl h) = inl (spaces_space h)
  ends_space Before (inr h) = inr (shape_space h)
  ends_space Minus h = absurd h
  ends_space (Whole minus n) h = left_spaces kind (spaces_space h)
  ends_space (Pointed minus n) h = absurd h
  ends_space (Fraction minus n k) h = tail_spaces (spaces_space h)
  ends_space (Behind minus n k) h = spaces_space h
  ends_space Bad h = h

  ends_minus : (s : State) → Ends kind (on_minus kind s) t → Ends kind s (minus_char ∷ t)
  ends_minus Before h = inr (before_minus kind.signed refl h)
  ends_minus Minus h = absurd h
  ends_minus (Whole minus n) h = absurd h
  ends_minus (Pointed minus n) h = absurd h
  ends_minus (Fraction minus n k) h = absurd h
  ends_minus (Behind minus n k) h = absurd h
  ends_minus Bad h = h

  ends_point : (s : State) → Ends kind (on_point kind s) t → Ends kind s (point ∷ t)
  ends_point Before h = absurd h
  ends_point Minus h = absurd h
  ends_point (Whole minus n) h = whole_point minus n kind.places refl h
  ends_point (Pointed minus n) h = absurd h
  ends_point (Fraction minus n k) h = absurd h
  ends_point (Behind minus n k) h = absurd h
  ends_point Bad h = h

  ends_digit : (s : State) {d : ℕ} → d < 10 → Ends kind (on_digit s d) t → Ends kind s (digit_char d ∷ t)
  ends_digit Before l h = let h' = left_digit l h in inr (shape_left false (λ e. absurd (false≢true e)) h'.0 h'.1)
  ends_digit Minus l h = left_digit l h
  ends_digit (Whole minus n) l h = (left_digit l h).0
  ends_digit (Pointed minus n) l h = tail_digit l h
  ends_digit (Fraction minus n k) l h = (tail_digit l h).0
  ends_digit (Behind minus n k) l h = absurd h
  ends_digit Bad l h = h

  ends_step : (s : State) (c : ℕ) → Sort c → Ends kind (step kind s c) t → Ends kind s (c ∷ t)
  ends_step s c (a_space e) h = rw e (ends_space s (rw (e, step_space) at h))
  ends_step s c (a_minus e) h = rw e (ends_minus s (rw (e, step_minus) at h))
  ends_step s c (a_point e) h = rw e (ends_point s (rw (e, step_point) at h))
  ends_step s c (a_digit d l e) h = rw e (ends_digit s l (rw (e, step_digit kind s d l) at h))
  ends_step s c (another e) h = absurd (rw (e kind s) at h)

-- a state in which a text may end
abbrev pub Well : State → Type 0
Well Before = Unit {0}
Well Minus = ⊥
Well (Whole minus n) = Unit {0}
Well (Pointed minus n) = ⊥
Well (Fraction minus n k) = Unit {0}
Well (Behind minus n k) = Unit {0}
Well Bad = ⊥

ends_here : (kind : Kind) (s : State) → Well s → Ends kind s []
ends_here kind Before h = inl (0, refl)
ends_here kind Minus h = absurd h
ends_here kind (Whole minus n) h = left_spaces kind (0, refl)
ends_here kind (Pointed minus n) h = absurd h
ends_here kind (Fraction minus n k) h = tail_spaces (0, refl)
ends_here kind (Behind minus n k) h = (0, refl)
ends_here kind Bad h = h

pub ends : (kind : Kind) (s : State) (t : List ℕ) → Well (walk kind s t) → Ends kind s t
ends kind s [] h = ends_here kind s (rw walk_nil at h)
ends kind s (c ∷ t) h = ends_step kind t s c (sort c) (ends kind (step kind s c) t (rw walk_cons at h))
