-- The laws of halving: its rule with no count of turns, how many keys it compares, and that it finds what is there.
use Prim.Native.Nat.{ℕ, zero, suc, ◌+◌, ◌-◌, ◌/◌, ◌^◌, ◌≤◌, ◌<◌}
use Rattle.std.specs.Prelude.{◌≡◌, ◌⊎◌}
use Rattle.std.proofs.Math.Path.{refl}
use Rattle.std.proofs.Common.{ap, sym, ◌∙◌, inl, inr, ⊎_elim, add-one}
use Rattle.std.proofs.Math.Option.{none, some}
use Rattle.std.proofs.Math.Nat.{two-pow-succ}
use native.Mathlib.Omega.{arith}
use Rattle.laws.specs.Order.{three}
use Rattle.laws.specs.Choice.{never}
use Rattle.std.specs.declared.cmp.Ordering.{Ordering}
use Rattle.std.specs.declared.cmp.Ordering.TheVariants.{Less, Equal, Greater}
use Rattle.lookup.specs.Halving.{Halved, one_more, halved_in, halved_from, halved, digits_in, digits}

-- below, the same or above
abbrev Which : Ordering → Type 0
Which o = (o ≡ Equal) ⊎ ((o ≡ Less) ⊎ (o ≡ Greater))

which : (o : Ordering) → Which o
which Equal = inl refl
which Less = inr (inl refl)
which Greater = inr (inr refl)

-- n is under two to the power of its binary digits
holds : (t n : ℕ) → n ≤ t → n < 2 ^ digits_in t n
holds zero n h = omega arith
holds (suc t) zero h = omega arith
holds (suc t) (suc m) h =
    let half : suc m / 2 < 2 ^ digits_in t (suc m / 2) = holds t (suc m / 2) (omega arith) in
    let double = two-pow-succ (digits_in t (suc m / 2)) in
    rw (add-one (digits_in t (suc m / 2))) (omega arith)

pub digits_hold : (n : ℕ) → n < 2 ^ digits n
digits_hold n = holds n n (omega arith)

-- and a number under a power of two has no more of them than its exponent
under : (t n d : ℕ) → n < 2 ^ d → digits_in t n ≤ d
under zero n d h = omega arith
under (suc t) zero d h = omega arith
under (suc t) (suc m) zero h = absurd (omega arith)
under (suc t) (suc m) (suc d) h =
    let double : 2 ^ suc d ≡ 2 ^ d + 2 ^ d = two-pow-succ d in
    omega (arith, under t (suc m / 2) d (omega arith))

-- a larger number has no fewer
pub digits_climb : (n m : ℕ) → n ≤ m → digits n ≤ digits m
digits_climb n m h = under n n (digits m) (omega (arith, digits_hold m))

module _ (stands : ℕ → Ordering) where
  module _ (turns low m : ℕ) where
    matched : stands (low + m / 2) ≡ Equal
        → halved_in (suc turns) stands low (suc m) ≡ record { place = some (low + m / 2); compared = 1 }
    unfolding halved_in
    matched e = rw (e, halved_in)

    lower : stands (low + m / 2) ≡ Less → halved_in (suc turns) stands low (suc m) ≡ one_more (halved_in turns stands low (m / 2))
    unfolding halved_in
    lower e = rw (e, halved_in)

    higher : stands (low + m / 2) ≡ Greater
        → halved_in (suc turns) stands low (suc m) ≡ one_more (halved_in turns stands (low + m / 2 + 1) (m - m / 2))
    unfolding halved_in
    higher e = rw (e, halved_in)

  pub none_left : (turns low : ℕ) → halved_in turns stands low 0 ≡ record { place = none; compared = 0 }
  unfolding halved_in
  none_left zero low = refl
  none_left (suc turns) low = refl

  -- as many turns as keys are enough
  enough : (t u low n : ℕ) → n ≤ t → n ≤ u → halved_in t stands low n ≡ halved_in u stands low n
  enough zero u low zero h k = none_left 0 low ∙ sym (none_left u low)
  enough zero u low (suc m) h k = absurd (omega arith)
  enough (suc t) u low zero h k = none_left (suc t) low ∙ sym (none_left u low)
  enough (suc t) zero low (suc m) h k = absurd (omega arith)
  enough (suc t) (suc u) low (suc m) h k =
      go (enough t u low (m / 2) (omega arith) (omega arith)) (enough t u (low + m / 2 + 1) (m - m / 2) (omega arith) (omega arith))
      (which (stands (low + m / 2)))
    where
      go : halved_in t stands low (m / 2) ≡ halved_in u stands low (m / 2)
          → halved_in t stands (low + m / 2 + 1) (m - m / 2) ≡ halved_in u stands (low + m / 2 + 1) (m - m / 2)
          → Which (stands (low + m / 2))
          → halved_in (suc t) stands low (suc m) ≡ halved_in (suc u) stands low (suc m)
      go below above (inl e) = matched t low m e ∙ sym (matched u low m e)
      go below above (inr (inl e)) = lower t low m e ∙ ap one_more below ∙ sym (lower u low m e)
      go below above (inr (inr e)) = higher t low m e ∙ ap one_more above ∙ sym (higher u low m e)

  -- what is found is a match, and lies among the keys left
  placed : (t low n k : ℕ) → (halved_in t stands low n).place ≡ some k → (low ≤ k) × (k < low + n) × (stands k ≡ Equal)
  unfolding halved_in
  placed zero low n k e = absurd (never e)
  placed (suc t) low zero k e = absurd (never e)
  placed (suc t) low (suc m) k e =
      go (placed t low (m / 2) k) (placed t (low + m / 2 + 1) (m - m / 2) k) (which (stands (low + m / 2)))
    where
      go : ((halved_in t stands low (m / 2)).place ≡ some k → (low ≤ k) × (k < low + m / 2) × (stands k ≡ Equal))
          → ((halved_in t stands (low + m / 2 + 1) (m - m / 2)).place ≡ some k
          → (low + m / 2 + 1 ≤ k) × (k < low + m / 2 + 1 + (m - m / 2)) × (stands k ≡ Equal))
          → Which (stands (low + m / 2))
          → (low ≤ k) × (k < low + suc m) × (stands k ≡ Equal)
      go below above (inl f) =
          let here : low + m / 2 ≡ k = cc (matched t low m f) in
          (omega arith, omega arith, (cc))
      go below above (inr (inl f)) =
          let h = below (sym (ap (λ (r : Halved). r.place) (lower t low m f)) ∙ e) in
          (omega arith, omega arith, h.2)
      go below above (inr (inr f)) =
          let h = above (sym (ap (λ (r : Halved). r.place) (higher t low m f)) ∙ e) in
          (omega arith, omega arith, h.2)

  -- fewer keys than a power of two: no more are compared than its exponent
  compared_under : (t low n d : ℕ) → n < 2 ^ d → (halved_in t stands low n).compared ≤ d
  unfolding halved_in
  compared_under zero low n d h = omega arith
  compared_under (suc t) low zero d h = omega arith
  compared_under (suc t) low (suc m) zero h = absurd (omega arith)
  compared_under (suc t) low (suc m) (suc d) h =
      let double : 2 ^ suc d ≡ 2 ^ d + 2 ^ d = two-pow-succ d in
      go (compared_under t low (m / 2) d (omega arith)) (compared_under t (low + m / 2 + 1) (m - m / 2) d (omega arith))
      (which (stands (low + m / 2)))
    where
      go : (halved_in t stands low (m / 2)).compared ≤ d → (halved_in t stands (low + m / 2 + 1) (m - m / 2)).compared ≤ d
          → Which (stands (low + m / 2))
          → (halved_in (suc t) stands low (suc m)).compared ≤ suc d
      go below above (inl e) = rw (matched t low m e) (omega arith)
      go below above (inr (inl e)) = rw (lower t low m e) (omega arith)
      go below above (inr (inr e)) = rw (higher t low m e) (omega arith)

  -- M-102, the rule of n keys left, each half with as many turns as it has keys
  module _ (low n : ℕ) (some_left : 0 < n) where
    opened : halved_from stands low n ≡ halved_in (suc (n - 1)) stands low (suc (n - 1))
    opened = let e : n ≡ suc (n - 1) = omega arith in ap (λ (k : ℕ). halved_in k stands low k) e

    pub match_stops : stands (low + (n - 1) / 2) ≡ Equal
        → halved_from stands low n ≡ record { place = some (low + (n - 1) / 2); compared = 1 }
    match_stops e = opened ∙ matched (n - 1) low (n - 1) e

    pub goes_below : stands (low + (n - 1) / 2) ≡ Less → halved_from stands low n ≡ one_more (halved_from stands low ((n - 1) / 2))
    goes_below e =
        opened ∙ lower (n - 1) low (n - 1) e ∙ ap one_more (enough (n - 1) ((n - 1) / 2) low ((n - 1) / 2) (omega arith) (omega arith))

    pub goes_above : stands (low + (n - 1) / 2) ≡ Greater
        → halved_from stands low n ≡ one_more (halved_from stands (low + (n - 1) / 2 + 1) (n - 1 - (n - 1) / 2))
    goes_above e =
        let left : ℕ = n - 1 - (n - 1) / 2 in
        opened ∙ higher (n - 1) low (n - 1) e
        ∙ ap one_more (enough (n - 1) left (low + (n - 1) / 2 + 1) left (omega arith) (omega arith))

  -- every key before another is passed, or the other lies beyond: so it is where keys strictly ascend
  abbrev pub Ascends : ℕ → Type 0
  Ascends n = (j k : ℕ) → j < k → k < n → (stands j ≡ Greater) ⊎ (stands k ≡ Less)

  finds : (t low n all k : ℕ) → Ascends all → n ≤ t → low + n ≤ all → low ≤ k → k < low + n → stands k ≡ Equal
      → (halved_in t stands low n).place ≡ some k
  finds zero low n all k asc turns within h h' e = absurd (omega arith)
  finds (suc t) low zero all k asc turns within h h' e = absurd (omega arith)
  finds (suc t) low (suc m) all k asc turns within h h' e =
      go (λ (l : k < low + m / 2). finds t low (m / 2) all k asc (omega arith) (omega arith) h l e)
      (λ (l : low + m / 2 < k). finds t (low + m / 2 + 1) (m - m / 2) all k asc (omega arith) (omega arith) (omega arith) (omega arith) e)
      (three k (low + m / 2))
    where
      go : (k < low + m / 2 → (halved_in t stands low (m / 2)).place ≡ some k)
          → (low + m / 2 < k → (halved_in t stands (low + m / 2 + 1) (m - m / 2)).place ≡ some k)
          → (k < low + m / 2) ⊎ ((low + m / 2 < k) ⊎ (k ≡ low + m / 2))
          → (halved_in (suc t) stands low (suc m)).place ≡ some k
      go below above (inl l) =
          ⊎_elim (λ (f : stands k ≡ Greater). (cc))
          (λ (f : stands (low + m / 2) ≡ Less). ap (λ (r : Halved). r.place) (lower t low m f) ∙ below l)
          (asc k (low + m / 2) l (omega arith))
      go below above (inr (inl l)) =
          ⊎_elim (λ (f : stands (low + m / 2) ≡ Greater). ap (λ (r : Halved). r.place) (higher t low m f) ∙ above l)
          (λ (f : stands k ≡ Less). (cc))
          (asc (low + m / 2) k l (omega arith))
      go below above (inr (inr l)) = cc (matched t low m (ap stands (sym l) ∙ e))

  -- M-102: at most the binary digits of the number of keys are compared
  pub compared_few : (n : ℕ) → (halved stands n).compared ≤ digits n
  compared_few n = compared_under n 0 n (digits n) (digits_hold n)

  -- a place that is found is one of the row, and its key matches, whatever the keys are
  pub found_matches : (n k : ℕ) → (halved stands n).place ≡ some k → (k < n) × (stands k ≡ Equal)
  found_matches n k e = let h = placed n 0 n k e in (omega arith, h.2)

  -- where keys strictly ascend, a match is found at its place
  pub match_found : (n k : ℕ) → Ascends n → k < n → stands k ≡ Equal → (halved stands n).place ≡ some k
  match_found n k asc h e = finds n 0 n n k asc (omega arith) (omega arith) (omega arith) (omega arith) e
