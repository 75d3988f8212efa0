-- Tests joined by "and" and "or", and what a test says.
use Rattle.std.specs.Prelude.{ℕ, ◌≤◌, ◌<◌, ◌≡◌, refl, Bool, true, false, ◌&&◌, ◌||◌, ◌⊎◌, ◌↔◌, leb, eqb}
use Rattle.std.proofs.Common.{true≢false, inl, inr, ⊎_elim, arith, le-leb, eqb-true, eq-eqb, leb-true}
use Rattle.std.proofs.lemmas.Bool.{false≢true, lt-leb}
use Rattle.laws.specs.Order.{order}

pub and_false : (t : Bool) → t && false ≡ false
and_false true = refl
and_false false = refl

pub and-true : (t : Bool) → t && true ≡ t
and-true true = refl
and-true false = refl

pub or-false : (t : Bool) → t || false ≡ t
or-false true = refl
or-false false = refl

pub or-true : (t : Bool) → t || true ≡ true
or-true true = refl
or-true false = refl

pub or_assoc : (r s t : Bool) → (r || s) || t ≡ r || (s || t)
or_assoc true s t = refl
or_assoc false s t = refl

pub or_none : (s t : Bool) → s || t ≡ false → (s ≡ false) × (t ≡ false)
or_none true t e = absurd (true≢false e)
or_none false t e = (refl, e)

pub any : (s t : Bool) → s || t ≡ true → (s ≡ true) ⊎ (t ≡ true)
any true t e = inl refl
any false t e = inr e

pub conj : (s t : Bool) → s ≡ true → t ≡ true → s && t ≡ true
conj s t e f = rw (e, f)

pub both : (s t : Bool) → s && t ≡ true → (s ≡ true) × (t ≡ true)
both true t e = (refl, e)
both false t e = absurd (false≢true e)

pub all_three : (q r s : Bool) → q && r && s ≡ true → (q ≡ true) × (r ≡ true) × (s ≡ true)
all_three q r s e =
    let two = both (q && r) s e in
    let one = both q r two.0 in
    (one.0, one.1, two.1)

pub all_four : (q r s t : Bool) → q && r && s && t ≡ true → (q ≡ true) × (r ≡ true) × (s ≡ true) × (t ≡ true)
all_four q r s t e =
    let two = both (q && r && s) t e in
    let three = all_three q r s two.0 in
    (three.0, three.1, three.2, two.1)

-- two tests of order agree where each fact follows from the other
pub same_test : (a b c d : ℕ) → (a ≤ b → c ≤ d) → (c ≤ d → a ≤ b) → leb a b ≡ leb c d
same_test a b c d f g =
    ⊎_elim (λ (h : a ≤ b). simp (le-leb a b h, le-leb c d (f h)))
    (λ (h : b < a). simp (lt-leb a b h, lt-leb c d (under h)))
    (order a b)
  where
    under : b < a → d < c
    under h = ⊎_elim (λ (k : c ≤ d). let l : a ≤ b = g k in omega arith) (λ (k : d < c). k) (order c d)

-- what a test says
pub eqb_is : (a b : ℕ) → eqb a b ≡ true ↔ a ≡ b
eqb_is a b = (eqb-true a b, eq-eqb a b)

pub leb_is : (a b : ℕ) → leb a b ≡ true ↔ a ≤ b
leb_is a b = (leb-true a b, le-leb a b)

module _ {A B : Type 0} {s t : Bool} (a : s ≡ true ↔ A) (b : t ≡ true ↔ B) where
  pub and_is : s && t ≡ true ↔ A × B
  and_is =
      ((λ e. let p = both s t e in (a.0 p.0, b.0 p.1)), (λ p. conj s t (a.1 p.0) (b.1 p.1)))

  pub or_is : s || t ≡ true ↔ A ⊎ B
  or_is = (
    (λ e. ⊎_elim (λ (h : s ≡ true). inl (a.0 h)) (λ (h : t ≡ true). inr (b.0 h)) (any s t e)),
    (λ p. ⊎_elim (λ (h : A). rw (a.1 h)) (λ (h : B). rw (b.1 h) (or-true s)) p),
  )
