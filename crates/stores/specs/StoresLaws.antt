-- Laws of stores: what is kept is made, and what was kept before it stays.
use Rattle.std.specs.Prelude.{ℕ, zero, suc, ◌+◌, ◌*◌, ◌≤◌, ◌<◌, ◌≡◌, refl, List, [], ◌∷◌, ◌++◌, length, get_or, set, take, drop}
use Rattle.std.proofs.Common.{ap, ap₂, sym, ◌∙◌, append_assoc, inl, inr, ⊎_elim, add-one, arith, lt-ltb, le-ltb, take_at, drop_at, take-take, length-take-le}
use Rattle.std.proofs.lemmas.List.Edits.{sets, sets-eq}
use Rattle.std.proofs.Math.Seq.{take-append_seam}
use Rattle.laws.specs.Lists.{part_of_front}
use Rattle.laws.specs.Order.{order}
use Rattle.stores.specs.Stored.{stored}
use Rattle.stores.specs.Stores.{store_cells, store_of, stored_at, made_of, made, AllFit, least_update, StoreKept, Keeps}

-- ---- storing a record

module _ (records : List ℕ) (at : ℕ) where
  pub stored_newer : (update : List ℕ) → 0 < length update → get_or records at 0 < get_or update 0 0 → sets records at update ≡ stored_at at update records
  stored_newer [] n h = absurd (omega arith)
  stored_newer (number ∷ rows) n h = rw (lt-ltb (get_or records at 0) number h)

  pub stored_late : (update : List ℕ) → get_or update 0 0 ≤ get_or records at 0 → records ≡ stored_at at update records
  stored_late update h = rw (le-ltb (get_or records at 0) (get_or update 0 0) h)

-- ---- a store as it is written

pub store_laid : (stores : List ℕ) (at place long number : ℕ) (cells : List ℕ)
    → sets (set (set (set stores at place) (at + 1) long) (at + 2) number) (at + 3) cells ≡ sets stores at (place ∷ long ∷ number ∷ cells)
store_laid stores at place long number cells =
    let second : at + 2 ≡ suc (suc at) = omega arith in
    let third : at + 3 ≡ suc (suc (suc at)) = omega arith in
    rw (add-one at, second, third)

-- ---- a contract's record as it is written: with a time stamp among its rows, and with none

pub record_laid : (stores : List ℕ) (at session market : ℕ) (rows : List ℕ) → sets (set (set stores at session) (at + 1) market) (at + 2) rows ≡ sets stores at (session ∷ market ∷ rows)
record_laid stores at session market rows =
    let second : at + 2 ≡ suc (suc at) = omega arith in
    rw (add-one at, second)

-- ---- the stores before another

made_same : (n : ℕ) (stores stores' records : List ℕ) → ((i : ℕ) → i < n → store_of stores' i ≡ store_of stores i) → made n stores' records ≡ made n stores records
made_same zero stores stores' records e = refl
made_same (suc n) stores stores' records e =
    ap₂ made_of (e n (omega arith)) (made_same n stores stores' records (λ i h. e i (omega arith)))

-- ---- one more store

module _ (stores : List ℕ) (kept at number : ℕ) (cells : List ℕ) (small : length cells ≤ 34) (room : store_cells * kept + store_cells ≤ length stores) where
  abbrev slot : List ℕ
  slot = at ∷ suc (length cells) ∷ number ∷ cells

  abbrev stores' : List ℕ
  stores' = sets stores (store_cells * kept) slot

  abbrev front : List ℕ
  front = take (store_cells * kept) stores

  abbrev rest : List ℕ
  rest = drop (store_cells * kept + length slot) stores

  front_long : length front ≡ store_cells * kept
  front_long = length-take-le (store_cells * kept) stores (omega arith)

  laid : stores' ≡ front ++ (slot ++ rest)
  laid = sets-eq slot stores (store_cells * kept) (omega arith) ∙ append_assoc front slot rest

  others_stay : (i : ℕ) → i < kept → store_of stores' i ≡ store_of stores i
  others_stay i h =
      let inside : store_cells * i + store_cells ≤ store_cells * kept = omega arith in
      sym (part_of_front (store_cells * i) store_cells (store_cells * kept) stores' inside)
      ∙ ap (λ (l : List ℕ). take store_cells (drop (store_cells * i) l)) (ap (take (store_cells * kept)) laid ∙ take_at front (slot ++ rest) (store_cells * kept) front_long)
      ∙ part_of_front (store_cells * i) store_cells (store_cells * kept) stores inside

  own : store_of stores' kept ≡ at ∷ suc (length cells) ∷ number ∷ take 34 (cells ++ rest)
  own = ap (take store_cells) (ap (drop (store_cells * kept)) laid ∙ drop_at front (slot ++ rest) (store_cells * kept) front_long)

  own_made : (records : List ℕ) → made_of (store_of stores' kept) records ≡ stored at number cells records
  own_made records =
      ap (λ (l : List ℕ). made_of l records) own
      ∙ ap (λ (l : List ℕ). stored at number l records) (take-take (length cells) 34 (cells ++ rest) small ∙ take-append_seam cells rest)

  one_more_made : (records : List ℕ) → made (suc kept) stores' records ≡ stored at number cells (made kept stores records)
  one_more_made records =
      ap (made_of (store_of stores' kept)) (made_same kept stores stores' records others_stay) ∙ own_made (made kept stores records)

  module _ (wanted : ℕ) (fits : at + suc (length cells) ≤ wanted) (before : AllFit wanted kept stores) where
    one_more_fits : AllFit wanted (suc kept) stores'
    one_more_fits i h =
        ⊎_elim (λ (l : kept ≤ i). let last : i ≡ kept = omega arith in rw (last, own) (omega arith, omega arith, fits))
        (λ (l : i < kept). rw (others_stay i l) (before i l))
        (order kept i)

-- stores that lie within some cells lie within more
pub all_fit : (wanted lent : ℕ) → wanted ≤ lent → (n : ℕ) (stores : List ℕ) → AllFit wanted n stores → AllFit lent n stores
all_fit wanted lent h n stores f i l = let g = f i l in (g.0, g.1, omega (arith, g.2))

-- ---- what is kept of a message

module _ (wanted long : ℕ) (stores : List ℕ) (kept : ℕ) (within : store_cells * kept ≤ length stores) (changes : List ℕ → List ℕ) where
  -- one that changes no record
  pub none_kept : ((records : List ℕ) → changes records ≡ records) → Keeps wanted long stores kept changes kept stores
  none_kept same = record { makes = λ room records. sym (same (made kept stores records)); fit = λ before. before; few = omega arith; within = within }

-- an update that is taken
pub one_kept : (wanted long : ℕ) (stores : List ℕ) (kept : ℕ) → store_cells * kept ≤ length stores → (at number : ℕ) (cells : List ℕ) → length cells ≤ 34
    → least_update ≤ long → at + suc (length cells) ≤ wanted → (kept' : ℕ) (stores' : List ℕ) → StoreKept stores kept at number cells kept' stores'
    → Keeps wanted long stores kept (stored at number cells) kept' stores'
one_kept wanted long stores kept within at number cells small least fits kept' stores' (inl k) =
    rw (k.1, k.2)
    (record { makes = λ room records. absurd (let r = room least in omega (arith, k.0)); fit = λ before. before; few = omega arith; within = within })
one_kept wanted long stores kept within at number cells small least fits kept' stores' (inr k) =
    rw (k.1, k.2)
    (record {
      makes = λ room records. one_more_made stores kept at number cells small k.0 records;
      fit = one_more_fits stores kept at number cells small k.0 wanted fits;
      few = omega arith;
      within = omega (arith, k.0);
    })
