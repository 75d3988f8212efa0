-- Laws of runs: runs that ascend and stand apart, a number removed from them, a hole put behind them, and that the numbers
-- they name make them what they are.
use Rattle.std.specs.Prelude.{ℕ, suc, ◌+◌, ◌-◌, ◌≤◌, ◌<◌, ◌≡◌, refl, true, false, ◌&&◌, ◌||◌, List, [], ◌∷◌, ◌++◌, ◌⊎◌, leb, ltb}
use Rattle.std.proofs.Common.{sym, ap₂, ◌∙◌, true≢false, append_assoc, inl, inr, ⊎_elim, le_trans, le_refl, le_antisymm, arith, le-leb, leb-true, lt-ltb, le-ltb, ne_eqb, eq-eqb}
use Rattle.std.proofs.lemmas.Bool.{lt-leb}
use Rattle.laws.specs.Tests.{and_false, and-true, or-false, or_assoc, both, same_test}
use Rattle.laws.specs.Choice.{either}
use Rattle.laws.specs.Order.{order}
use Rattle.sequence.specs.Runs.{Run, ◌to◌, names, missing}
use Rattle.sequence.specs.Changes.{span, meet, join, without}
use Rattle.sequence.specs.Apart.{Apart, none, next}

-- ---- what runs name

pub names_in : (r : Run) (k : ℕ) → r.first ≤ k → k ≤ r.last → names r k ≡ true
names_in r k h l = simp (le-leb r.first k h, le-leb k r.last l)

pub names_below : (r : Run) (k : ℕ) → k < r.first → names r k ≡ false
names_below r k h = simp (lt-leb r.first k h)

pub names_above : (r : Run) (k : ℕ) → r.last < k → names r k ≡ false
names_above r k h = simp (lt-leb k r.last h, and_false)

pub named : (r : Run) (k : ℕ) → names r k ≡ true → (r.first ≤ k) × (k ≤ r.last)
named r k e =
    let both = both (leb r.first k) (leb k r.last) e in
    (leb-true r.first k both.0, leb-true k r.last both.1)

pub missing_append : (rs ss : List Run) (k : ℕ) → missing (rs ++ ss) k ≡ missing rs k || missing ss k
missing_append [] ss k = refl
missing_append (r ∷ rs) ss k = simp (missing_append rs ss k, or_assoc)

pub missing_span : (a c k : ℕ) → missing (span a c) k ≡ leb a k && ltb k c
missing_span a c k =
    ⊎_elim (λ (h : c ≤ a). simp (le-ltb a c h) (empty h (order a k)))
    (λ (h : a < c). simp (lt-ltb a c h, or-false, same_test k (c - 1) (suc k) c (λ l. omega arith) (λ l. omega arith)))
    (order c a)
  where
    empty : c ≤ a → (a ≤ k) ⊎ (k < a) → false ≡ leb a k && ltb k c
    empty h (inl l) = simp (le-ltb k c (omega arith), and_false)
    empty h (inr l) = simp (lt-leb a k l)

-- ---- runs that ascend and stand apart

pub apart_from : {from from' highest : ℕ} {rs : List Run} → from' ≤ from → Apart highest from rs → Apart highest from' rs
apart_from h none = none
apart_from h (next r f l u p) = next r (le_trans h f) l u p

pub apart_up : {highest highest' from : ℕ} {rs : List Run} → highest ≤ highest' → Apart highest from rs → Apart highest' from rs
apart_up h none = none
apart_up h (next r f l u p) = next r f l (le_trans u h) (apart_up h p)

-- every number missing stands between
pub none_below : {highest from : ℕ} {rs : List Run} (k : ℕ) → Apart highest from rs → k < from → missing rs k ≡ false
none_below k none h = refl
none_below k (next r f l u p) h = simp (names_below r k (omega arith)) (none_below k p (omega arith))

pub none_above : {highest from : ℕ} {rs : List Run} (k : ℕ) → Apart highest from rs → highest < k → missing rs k ≡ false
none_above k none h = refl
none_above k (next r f l u p) h = simp (names_above r k (omega arith)) (none_above k p h)

-- ---- a number removed

-- numbers from a to below c, then runs from two above on
apart_span : {highest from : ℕ} (a c : ℕ) (rs : List Run) → from ≤ a → from ≤ c + 1 → c ≤ highest + 1 → Apart highest (c + 1) rs → Apart highest from (span a c ++ rs)
apart_span a c rs h l m p =
    ⊎_elim (λ (o : c ≤ a). simp (le-ltb a c o) (apart_from l p))
    (λ (o : a < c). simp (lt-ltb a c o) (next (a to (c - 1)) h (omega arith) (omega arith) (apart_from (omega arith) p)))
    (order c a)

pub without_apart : {highest from : ℕ} {rs : List Run} (k : ℕ) → Apart highest from rs → Apart highest from (without rs k)
without_apart k none = none
without_apart k (next r {rs = rs} f l u p) =
    let rest = without_apart k p in
    ⊎_elim (λ (e : names r k ≡ true).
    let both = named r k e in
    simp (e, append_assoc)
    (apart_span r.first k _ f (omega arith) (omega arith)
    (apart_span (k + 1) (r.last + 1) rs (omega arith) (omega arith) (omega arith) (apart_from (omega arith) p))))
    (λ (e : names r k ≡ false). simp e (next r f l u rest))
    (either (names r k))

pub without_itself : {highest from : ℕ} {rs : List Run} (k : ℕ) → Apart highest from rs → missing (without rs k) k ≡ false
without_itself k none = refl
without_itself k (next r f l u p) =
    let rest = without_itself k p in
    ⊎_elim (λ (e : names r k ≡ true).
    let both = named r k e in
    simp (e, missing_append, missing_span, or_assoc, le-ltb k k (omega arith), lt-leb (k + 1) k (omega arith), and_false)
    (none_below k p (omega arith)))
    (λ (e : names r k ≡ false). simp e rest)
    (either (names r k))

pub without_others : (rs : List Run) (k j : ℕ) → (j ≡ k → ⊥) → missing (without rs k) j ≡ missing rs j
without_others [] k j n = refl
without_others (r ∷ rs) k j n =
    let rest = without_others rs k j n in
    ⊎_elim (λ (e : names r k ≡ true). simp (e, missing_append, missing_span, or_assoc) (around (named r k e) (order k j)))
    (λ (e : names r k ≡ false). simp (e, rest))
    (either (names r k))
  where
    around : (r.first ≤ k) × (k ≤ r.last) → (k ≤ j) ⊎ (j < k) → leb r.first j && ltb j k || (leb (k + 1) j && ltb j (r.last + 1) || missing rs j) ≡ names r j || missing rs j
    around both (inl h) =
        simp
        (le-ltb j k h, le-leb (k + 1) j (omega arith), le-leb r.first j (omega arith), same_test (suc j) (r.last + 1) j r.last (λ l. omega arith) (λ l. omega arith))
    around both (inr h) = simp (lt-ltb j k h, and-true, lt-leb (k + 1) j (omega arith), le-leb j r.last (omega arith))

-- ---- a hole from one above highest on: one more run, or the last run made longer where that ends at highest

pub meet_apart : {highest : ℕ} {rs : List Run} (r : Run) → Apart highest (r.last + 2) rs → meet r rs ≡ r ∷ rs
meet_apart r none = refl
meet_apart r (next s f l u p) = simp (ne_eqb (r.last + 1) s.first (omega arith))

pub join_none : {highest from : ℕ} {rs : List Run} → Apart highest from rs → join rs [] ≡ rs
join_none none = refl
join_none (next r f l u p) = rw (join_none p) (meet_apart r p)

pub no_room : {highest from : ℕ} {rs : List Run} → highest < from → Apart highest from rs → rs ≡ []
no_room h none = refl
no_room h (next r f l u p) = absurd (omega arith)

pub join_last : {highest : ℕ} {rs : List Run} (r : Run) (d : ℕ) → r.last ≡ highest → Apart highest (r.last + 2) rs → join (r ∷ rs) ((highest + 1) to d ∷ []) ≡ r.first to d ∷ []
join_last {highest} r d e p = rw (no_room (omega arith) p) (simp (eq-eqb (r.last + 1) (highest + 1) (omega arith)))

pub join_apart : {highest from : ℕ} {rs : List Run} (d : ℕ) → from ≤ highest + 1 → highest < d → Apart highest from rs → Apart d from (join rs ((highest + 1) to d ∷ []))
join_apart d m n none = next (_ to d) m (omega arith) (le_refl d) none
join_apart {highest} {from} d m n (next r {rs = rs} f l u p) =
    ⊎_elim (λ (o : r.last + 2 ≤ highest + 1).
    let rest = join_apart d o n p in
    rw (meet_apart r rest) (next r f l (omega arith) rest))
    (λ (o : highest + 1 < r.last + 2).
    rw (join_last r d (omega arith) p) (next (r.first to d) f (omega arith) (le_refl d) none))
    (order (r.last + 2) (highest + 1))

pub missing_join : {highest from : ℕ} {rs : List Run} (d k : ℕ) → from ≤ highest + 1 → highest < d → Apart highest from rs → missing (join rs ((highest + 1) to d ∷ [])) k ≡ missing rs k || names ((highest + 1) to d) k
missing_join d k m n none = or-false _
missing_join {highest} {from} d k m n (next r {rs = rs} f l u p) =
    ⊎_elim (λ (o : r.last + 2 ≤ highest + 1).
    rw (meet_apart r (join_apart d o n p)) (simp (missing_join d k o n p, or_assoc)))
    (λ (o : highest + 1 < r.last + 2).
    rw (join_last r d (omega arith) p, no_room (omega arith) p) (longer (omega arith) (order k r.last)))
    (order (r.last + 2) (highest + 1))
  where
    longer : r.last ≡ highest → (k ≤ r.last) ⊎ (r.last < k) → missing (r.first to d ∷ []) k ≡ missing (r ∷ []) k || names ((highest + 1) to d) k
    longer e (inl h) = simp (le-leb k r.last h, le-leb k d (omega arith), lt-leb (highest + 1) k (omega arith), and-true, or-false)
    longer e (inr h) = simp (lt-leb k r.last h, le-leb r.first k (omega arith), le-leb (highest + 1) k (omega arith), or-false)

-- ---- the numbers that runs name make them what they are

module _ {highest highest' from from' : ℕ} {rs ss : List Run} (r s : Run) where
  not_behind : Apart highest from (r ∷ rs) → Apart highest' from' (s ∷ ss) → ((k : ℕ) → missing (r ∷ rs) k ≡ missing (s ∷ ss) k) → s.first ≤ r.first
  not_behind (next _ f l u p) (next _ f' l' u' q) same =
      ⊎_elim (λ (h : s.first ≤ r.first). h)
      (λ (h : r.first < s.first).
      absurd (true≢false (simp (names_in r r.first (le_refl _) l) at (same r.first) ∙ none_below r.first (next s (le_refl _) l' u' q) h)))
      (order s.first r.first)

  not_longer : r.first ≡ s.first → Apart highest from (r ∷ rs) → Apart highest' from' (s ∷ ss) → ((k : ℕ) → missing (r ∷ rs) k ≡ missing (s ∷ ss) k) → r.last ≤ s.last
  not_longer e (next _ f l u p) (next _ f' l' u' q) same =
      ⊎_elim (λ (h : r.last ≤ s.last). h)
      (λ (h : s.last < r.last).
      absurd
      (true≢false
      (simp (names_in r (s.last + 1) (omega arith) (omega arith), names_above s (s.last + 1) (omega arith)) at (same (s.last + 1))
      ∙ none_below (s.last + 1) q (omega arith))))
      (order r.last s.last)

  rest_same : r.last ≡ s.last → Apart highest from (r ∷ rs) → Apart highest' from' (s ∷ ss) → ((k : ℕ) → missing (r ∷ rs) k ≡ missing (s ∷ ss) k) → (k : ℕ) → missing rs k ≡ missing ss k
  rest_same e (next _ f l u p) (next _ f' l' u' q) same k =
      ⊎_elim (λ (h : r.last + 2 ≤ k). simp (names_above r k (omega arith), names_above s k (omega arith)) at (same k))
      (λ (h : k < r.last + 2). none_below k p h ∙ sym (none_below k q (omega arith)))
      (order (r.last + 2) k)

none_named : {highest from : ℕ} {rs : List Run} (r : Run) → Apart highest from (r ∷ rs) → ((k : ℕ) → false ≡ missing (r ∷ rs) k) → ⊥
none_named r (next _ f l u p) same = true≢false (sym (same r.first ∙ simp (names_in r r.first (le_refl _) l)))

pub same_runs : {highest highest' from from' : ℕ} (rs ss : List Run) → Apart highest from rs → Apart highest' from' ss → ((k : ℕ) → missing rs k ≡ missing ss k) → rs ≡ ss
same_runs [] [] p q same = refl
same_runs [] (s ∷ ss) p q same = absurd (none_named s q same)
same_runs (r ∷ rs) [] p q same = absurd (none_named r p (λ k. sym (same k)))
same_runs {highest = highest} {highest' = highest'} {from = from} {from' = from'} (r ∷ rs) (s ∷ ss) (next _ f l u p) (next _ f' l' u' q) same =
    let p' : Apart highest _ (r ∷ rs) = next r f l u p in
    let q' : Apart highest' _ (s ∷ ss) = next s f' l' u' q in
    let back : (k : ℕ) → missing (s ∷ ss) k ≡ missing (r ∷ rs) k = λ k. sym (same k) in
    let firsts : r.first ≡ s.first = le_antisymm (not_behind s r q' p' back) (not_behind r s p' q' same) in
    let lasts : r.last ≡ s.last = le_antisymm (not_longer r s firsts p' q' same) (not_longer s r (sym firsts) q' p' back) in
    ap₂ ◌∷◌ (λ i. firsts i to lasts i) (same_runs {from = r.last + 2} {from' = s.last + 2} rs ss p q (rest_same r s lasts p' q' same))
