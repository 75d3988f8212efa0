-- Laws of the checksum: a text's sum one byte and eight bytes at a time, and the reserved bytes.
use Rattle.std.specs.Prelude.{ℕ, zero, suc, ◌+◌, ◌-◌, ◌*◌, ◌^◌, ◌≤◌, ◌<◌, ◌≡◌, refl, ◌⊎◌, List, [], ◌∷◌, ◌++◌, length, get_or, take, drop}
use Rattle.std.proofs.Common.{ap, sym, ◌∙◌, inl, inr, arith, add-one, pow-suc, length-drop, take-append-drop, drop-cons, get_or-drop, take-add, pow-add, ne_eqb}
use Rattle.accumulator.specs.Accumulator.{byte_step}
use Rattle.accumulator.specs.Words.{word_step}
use Rattle.accumulator.specs.Linear.{step_joined}
use Rattle.accumulator.specs.WordsLaws.{no_bits, byte_word}
use Rattle.checksum.specs.Checksum.{sum_from, sum_of, lowered}
use Rattle.wire.specs.Number.{number_at}
use Rattle.wire.specs.NumberLaws.{number_under, number_of_front}

-- the sum from the front: one byte, then those behind it
pub sum_on : (text : List ℕ) (i acc : ℕ) → i < length text
    → sum_from acc (drop i text) ≡ sum_from (byte_step acc (get_or text i 0)) (drop (suc i) text)
sum_on text i acc h = rw (drop-cons text i 0 h)

pub sum_joined : (front rest : List ℕ) (acc : ℕ) → sum_from acc (front ++ rest) ≡ sum_from (sum_from acc front) rest
sum_joined [] rest acc = refl
sum_joined (b ∷ bs) rest acc = sum_joined bs rest (byte_step acc b)

pub sum_cut : (text : List ℕ) (n : ℕ) → sum_from (sum_of (take n text)) (drop n text) ≡ sum_of text
sum_cut text n = sym (sum_joined (take n text) (drop n text) 0) ∙ ap sum_of (take-append-drop n text)

byte_bits : (w : ℕ) → 256 ^ w ≡ 2 ^ (8 * w)
byte_bits zero = refl
byte_bits (suc w) =
    let e : 8 * suc w ≡ 8 * w + 8 = omega arith in
    rw (e, pow-suc 256 w, pow-add 2 (8 * w) 8, byte_bits w)

-- the sum of so many bytes is that of the word that they are
module _ (text : List ℕ) (byte : (i : ℕ) → get_or text i 0 < 256) where
  pub sum_of_word : (w at acc : ℕ) → at + w ≤ length text
      → sum_from acc (take w (drop at text)) ≡ word_step (8 * w) acc (number_at w text at)
  sum_of_word zero at acc h = sym (no_bits acc 0)
  sum_of_word (suc w) at acc h =
      let b : ℕ = get_or text at 0 in
      let rest : ℕ = number_at w text (at + 1) in
      let under : rest < 2 ^ (8 * w) = rw (← byte_bits w) (number_under text byte w (at + 1)) in
      let e : 8 * suc w ≡ 8 + 8 * w = omega arith in
      rw (drop-cons text at 0 (omega arith), e, byte_bits w, step_joined 8 (8 * w) acc b rest under, ← byte_word acc b, ← add-one at)
      (sum_of_word w (at + 1) (byte_step acc b) (omega arith))

-- the sum of a text's front grows by the word behind it
pub sum_eight : (text : List ℕ) → ((i : ℕ) → get_or text i 0 < 256) → (i : ℕ) → i + 8 ≤ length text
    → sum_of (take (i + 8) text) ≡ word_step 64 (sum_of (take i text)) (number_at 8 (take 8 (drop i text)) 0)
sum_eight text byte i h =
    let rest : List ℕ = drop i text in
    let byte' : (j : ℕ) → get_or rest j 0 < 256 = λ j. rw (get_or-drop i text j 0) (byte (i + j)) in
    rw (take-add i 8 text, sum_joined (take i text) (take 8 rest) 0, number_of_front 8 8 rest 0 (omega arith))
    (sum_of_word rest byte' 8 0 (sum_of (take i text)) (rw (length-drop i text) (omega arith)))

-- 01 "The checksum": 10, 13, 17 and 19
abbrev pub Reserved : ℕ → Type 0
Reserved b = (b ≡ 10) ⊎ ((b ≡ 13) ⊎ ((b ≡ 17) ⊎ (b ≡ 19)))

pub lowered_reserved : (b : ℕ) → Reserved b → lowered b ≡ b - 1
lowered_reserved b (inl e) = rw e
lowered_reserved b (inr (inl e)) = rw e
lowered_reserved b (inr (inr (inl e))) = rw e
lowered_reserved b (inr (inr (inr e))) = rw e

pub lowered_other : (b : ℕ) → (Reserved b → ⊥) → lowered b ≡ b
lowered_other b h =
    simp
    (ne_eqb b 10 (λ e. h (inl e)), ne_eqb b 13 (λ e. h (inr (inl e))), ne_eqb b 17 (λ e. h (inr (inr (inl e)))), ne_eqb b 19 (λ e. h (inr (inr (inr e)))))

pub reserved_positive : (b : ℕ) → Reserved b → 1 ≤ b
reserved_positive b (inl e) = omega arith
reserved_positive b (inr (inl e)) = omega arith
reserved_positive b (inr (inr (inl e))) = omega arith
reserved_positive b (inr (inr (inr e))) = omega arith
