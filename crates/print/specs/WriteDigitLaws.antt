-- Laws of the digits that a number has: at its last places, with no needless zero in front, and with none at the end.
use Rattle.std.specs.Prelude.{ℕ, zero, suc, ◌+◌, ◌-◌, ◌*◌, ◌/◌, ◌%◌, ◌^◌, ◌<◌, ◌≤◌, ◌≡◌, refl, List, [], ◌∷◌, ◌++◌, length, replicate}
use Rattle.std.proofs.Common.{sym, ap, ◌∙◌, append-nil, ⊎_elim, le_refl, div-one, div-lt_iff_lt-mul, mod-lt, mod-eq_of_lt, pow-suc, add-mul, mul_assoc, add_assoc, arith, lit<, length-append, lt-ltb, le-ltb}
use Rattle.std.proofs.Math.Nat.{mod-one, pow-succ'}
use Rattle.std.proofs.Math.Arith.{digits_div, digits_mod, mod-mul, le-zero}
use Rattle.std.proofs.lemmas.List.{length-replicate}
use Rattle.std.proofs.Math.Seq.{append_snoc}
use Rattle.laws.specs.Order.{order}
use Rattle.decimal.specs.Denotes.{value, Digits}
use Rattle.print.specs.Write.{last_digits, size_in, size, digits, kept, trimmed}
use Rattle.laws.specs.Powers.{ten_pos, tenth_first}
use Rattle.print.specs.ValueLaws.{value_zeros, value_lt, digits_front}

-- the digits at the last k places are k digits, which count what n leaves at the place above them
pub length_last : (k n : ℕ) → length (last_digits k n) ≡ k
length_last zero n = refl
length_last (suc k) n = ap suc (length_last k n)

pub digits_last : (k n : ℕ) → Digits (last_digits k n)
digits_last zero n = tt
digits_last (suc k) n = (mod-lt (n / 10 ^ k) (lit< tt), digits_last k n)

pub value_last : (k n : ℕ) → value (last_digits k n) ≡ n % 10 ^ k
value_last zero n = sym (mod-one n)
value_last (suc k) n =
    rw (length_last k n, value_last k n, pow-succ', mod-mul n {m = 10} {c = 10 ^ k} (lit< tt) (ten_pos k))

-- and digits are those of the number that they count, whatever stands above them
pub last_value : (ds : List ℕ) (above : ℕ) → Digits ds → last_digits (length ds) (above * 10 ^ length ds + value ds) ≡ ds
last_value [] above h = refl
last_value (d ∷ ds) above h =
    let regroup : above * 10 ^ suc (length ds) + (d * 10 ^ length ds + value ds) ≡ (above * 10 + d) * 10 ^ length ds + value ds =
    rw (pow-succ', ← mul_assoc, add-mul, add_assoc) in
    rw (regroup, digits_div (above * 10 + d) (value_lt ds h.1), digits_mod above h.0, last_value ds (above * 10 + d) h.1)

-- one digit more at the end
pub last_snoc : (k n : ℕ) → last_digits (suc k) n ≡ last_digits k (n / 10) ++ (n % 10 ∷ [])
last_snoc zero n = rw div-one
last_snoc (suc k) n = rw (tenth_first, last_snoc k n)

-- how many digits: any number of steps that is enough gives the same
steps_enough : (f g n : ℕ) → n ≤ f → n ≤ g → size_in f n ≡ size_in g n
unfolding size_in
steps_enough zero zero n hf hg = refl
steps_enough zero (suc g) n hf hg = rw (le-zero hf)
steps_enough (suc f) zero n hf hg = rw (le-zero hg)
steps_enough (suc f) (suc g) n hf hg =
    ⊎_elim (λ (h : 10 ≤ n). rw (le-ltb n 10 h, steps_enough f g (n / 10) (omega arith) (omega arith)))
    (λ (h : n < 10). rw (lt-ltb n 10 h)) (order 10 n)

pub size_one : (n : ℕ) → n < 10 → size n ≡ 1
unfolding size size_in
size_one zero h = refl
size_one (suc n) h = rw (lt-ltb (suc n) 10 h)

pub size_more : (n : ℕ) → 10 ≤ n → size n ≡ suc (size (n / 10))
unfolding size size_in
size_more zero h = absurd (omega arith)
size_more (suc n) h = rw (le-ltb (suc n) 10 h, steps_enough n (suc n / 10) (suc n / 10) (omega arith) (omega arith))

-- one more than the largest power of ten that is no larger
pub size_power : (k n : ℕ) → 10 ^ k ≤ n → n < 10 * 10 ^ k → size n ≡ suc k
size_power zero n low high = size_one n high
size_power (suc k) n low high =
    let floor : 10 ^ k * 10 ≤ n = rw pow-suc at low in
    let ceiling : n < 10 * (10 ^ k * 10) = rw pow-suc at high in
    size_more n (omega (arith, ten_pos k)) ∙ ap suc (size_power k (n / 10) (omega arith) (omega arith))

pub size_pos : (n : ℕ) → 0 < size n
size_pos n = ⊎_elim (λ (h : 10 ≤ n). omega (arith, size_more n h)) (λ (h : n < 10). omega (arith, size_one n h)) (order 10 n)

-- a number has room in so many digits, and in no fewer
pub size_holds : (n : ℕ) → n < 10 ^ size n
size_holds n = go n n (le_refl n)
  where
    step : (m : ℕ) → (10 ≤ m → m / 10 < 10 ^ size (m / 10)) → m < 10 ^ size m
    step m tens =
        ⊎_elim (λ (h : 10 ≤ m). rw (size_more m h, pow-suc) ((div-lt_iff_lt-mul (lit< tt)).0 (tens h)))
        (λ (h : m < 10). rw (size_one m h) h) (order 10 m)

    go : (f m : ℕ) → m ≤ f → m < 10 ^ size m
    go zero m h = step m (λ t. absurd (omega arith))
    go (suc f) m h = step m (λ t. go f (m / 10) (omega arith))

pub size_least : (k n : ℕ) → 0 < k → n < 10 ^ k → size n ≤ k
size_least zero n p h = absurd (omega arith)
size_least (suc zero) n p h = omega (arith, size_one n h)
size_least (suc (suc k)) n p h =
    ⊎_elim
    (λ (t : 10 ≤ n).
    omega (arith, size_more n t, size_least (suc k) (n / 10) (omega arith) ((div-lt_iff_lt-mul (lit< tt)).1 (rw pow-suc at h))))
    (λ (t : n < 10). omega (arith, size_one n t)) (order 10 n)

pub value_digits : (n : ℕ) → value (digits n) ≡ n
value_digits n = rw (value_last, mod-eq_of_lt (size_holds n))

-- with no needless zero at the end: a zero there goes, any other digit stays, and so many zeros are all that went
pub trimmed_zero : (ds : List ℕ) → trimmed (ds ++ (0 ∷ [])) ≡ trimmed ds
trimmed_zero [] = refl
trimmed_zero (d ∷ ds) = rw (trimmed_zero ds)

kept_more : (d : ℕ) (ds es : List ℕ) → 0 < length es → kept d (ds ++ es) ≡ d ∷ (ds ++ es)
kept_more d [] [] h = absurd (omega arith)
kept_more d [] (e ∷ es) h = refl
kept_more d (x ∷ ds) es h = refl

pub trimmed_digit : (ds : List ℕ) (d : ℕ) → 0 < d → trimmed (ds ++ (d ∷ [])) ≡ ds ++ (d ∷ [])
trimmed_digit [] zero h = absurd (omega arith)
trimmed_digit [] (suc d) h = refl
trimmed_digit (x ∷ ds) d h = rw (trimmed_digit ds d h, kept_more x ds (d ∷ []) (lit< tt))

pub last_zero : (k n : ℕ) → n % 10 ≡ 0 → trimmed (last_digits (suc k) n) ≡ trimmed (last_digits k (n / 10))
last_zero k n h = ap trimmed (last_snoc k n) ∙ rw (h, trimmed_zero (last_digits k (n / 10)))

pub last_digit : (k n : ℕ) → 0 < n % 10 → trimmed (last_digits (suc k) n) ≡ last_digits (suc k) n
last_digit k n h = ap trimmed (last_snoc k n) ∙ trimmed_digit (last_digits k (n / 10)) (n % 10) h ∙ sym (last_snoc k n)

pub trimmed_zeros : (k : ℕ) (ds : List ℕ) → trimmed (ds ++ replicate k 0) ≡ trimmed ds
trimmed_zeros zero ds = rw append-nil
trimmed_zeros (suc k) ds = rw (← append_snoc ds 0 (replicate k 0), trimmed_zeros k (ds ++ (0 ∷ [])), trimmed_zero)

kept_split : (d : ℕ) (ds : List ℕ) (k : ℕ) → (j : ℕ) × (d ∷ (ds ++ replicate k 0) ≡ kept d ds ++ replicate j 0)
kept_split zero [] k = (suc k, refl)
kept_split (suc d) [] k = (k, refl)
kept_split d (e ∷ es) k = (k, refl)

pub trimmed_split : (ds : List ℕ) → (k : ℕ) × (ds ≡ trimmed ds ++ replicate k 0)
trimmed_split [] = (0, refl)
trimmed_split (d ∷ ds) =
    let (k, e) = trimmed_split ds in
    let (j, p) = kept_split d (trimmed ds) k in
    (j, ap (λ (es : List ℕ). d ∷ es) e ∙ p)

pub trimmed_shorter : (ds : List ℕ) → length (trimmed ds) ≤ length ds
trimmed_shorter ds = omega (arith, simp length-append at (ap length (trimmed_split ds).1))

pub digits_trimmed : (ds : List ℕ) → Digits ds → Digits (trimmed ds)
digits_trimmed ds h = digits_front (trimmed ds) (replicate (trimmed_split ds).0 0) (rw (trimmed_split ds).1 at h)

pub value_trimmed : (ds : List ℕ) → value (trimmed ds) * 10 ^ (length ds - length (trimmed ds)) ≡ value ds
value_trimmed ds =
    let (k, split) = trimmed_split ds in
    let many : length ds - length (trimmed ds) ≡ k = omega (arith, simp (length-append, length-replicate) at (ap length split)) in
    rw many (sym (ap value split ∙ value_zeros (trimmed ds) k))
