-- A refusal's numbers tell the refusal, and none is an accepted call's.
use Rattle.std.specs.Prelude.{ℕ, ◌≤◌, ◌≡◌, refl, Bool, false, cond, List, [], ◌∷◌, ◌++◌, eqb, length, get_or, drop}
use Rattle.std.proofs.Common.{sym, ap, ◌∙◌, true≢false, append-nil, arith, length-append, length-drop}
use Rattle.laws.specs.Told.{told}
use Rattle.state.specs.declared.refusal.Refusal.{Refusal}
use Rattle.state.specs.declared.refusal.Refusal.TheVariants.{Size, Packed, Flag, Count, Frame, Code, Trailer, Length, Checksum, Numbering, Field, Range, Contract, Gaps, Memory, List as ListOf, NoGap, State}
use Rattle.head.specs.declared.head.Fault.{Fault}
use Rattle.head.specs.declared.head.Fault.TheVariants as fault
use Rattle.head.specs.Faults.{fault_numbers}
use Rattle.state.specs.Refusals.{refusal_numbers, of_fault, in_message}

-- the refusal of a number, with its message, row and cells wanted
abbrev numbered : ℕ → ℕ → ℕ → ℕ → Refusal
numbered number message row wanted =
    cond (eqb number 1) Size (cond (eqb number 2) Packed (cond (eqb number 3) Flag (cond (eqb number 4) Count
    (cond (eqb number 5) (Frame message) (cond (eqb number 6) (Code message) (cond (eqb number 7) (Trailer message)
    (cond (eqb number 8) (Length message) (cond (eqb number 9) (Checksum message) (cond (eqb number 10) (Numbering message)
    (cond (eqb number 11) (Field message row) (cond (eqb number 12) (Range message row) (cond (eqb number 13) (Contract message)
    (cond (eqb number 14) (Gaps message) (cond (eqb number 15) (Memory wanted) (cond (eqb number 16) ListOf
    (cond (eqb number 17) NoGap State))))))))))))))))

abbrev pub refusal_of : List ℕ → Refusal
refusal_of ns = numbered (get_or ns 0 0) (get_or ns 1 0) (get_or ns 2 0) (get_or ns 3 0)

-- an accepted call's numbers begin with 0, and no refusal's do
abbrev pub accepts : List ℕ → Bool
accepts ns = eqb (get_or ns 0 0) 0

-- so also where more numbers stand behind its own, of which it has four
pub refusal_behind : (r : Refusal) (behind : List ℕ)
    → (refusal_of (refusal_numbers r ++ behind) ≡ r) × (accepts (refusal_numbers r ++ behind) ≡ false) × (drop 4 (refusal_numbers r ++ behind) ≡ behind)
refusal_behind Size behind = (refl, refl, refl)
refusal_behind Packed behind = (refl, refl, refl)
refusal_behind Flag behind = (refl, refl, refl)
refusal_behind Count behind = (refl, refl, refl)
refusal_behind (Frame message) behind = (refl, refl, refl)
refusal_behind (Code message) behind = (refl, refl, refl)
refusal_behind (Trailer message) behind = (refl, refl, refl)
refusal_behind (Length message) behind = (refl, refl, refl)
refusal_behind (Checksum message) behind = (refl, refl, refl)
refusal_behind (Numbering message) behind = (refl, refl, refl)
refusal_behind (Field message row) behind = (refl, refl, refl)
refusal_behind (Range message row) behind = (refl, refl, refl)
refusal_behind (Contract message) behind = (refl, refl, refl)
refusal_behind (Gaps message) behind = (refl, refl, refl)
refusal_behind (Memory wanted) behind = (refl, refl, refl)
refusal_behind ListOf behind = (refl, refl, refl)
refusal_behind NoGap behind = (refl, refl, refl)
refusal_behind State behind = (refl, refl, refl)

pub refusal_back : (r : Refusal) → (refusal_of (refusal_numbers r) ≡ r) × (accepts (refusal_numbers r) ≡ false)
refusal_back r =
    let alone = append-nil (refusal_numbers r) in
    let b = refusal_behind r [] in
    (ap refusal_of (sym alone) ∙ b.0, ap accepts (sym alone) ∙ b.1)

pub refusal_four : (r : Refusal) → length (refusal_numbers r) ≡ 4
refusal_four r =
    let one = ap length (refusal_behind r (0 ∷ [])).2 in
    omega (arith, one, length-drop 4 (refusal_numbers r ++ (0 ∷ [])), length-append (refusal_numbers r) (0 ∷ []))

pub refusal_told : (r s : Refusal) → refusal_numbers r ≡ refusal_numbers s → r ≡ s
refusal_told = told refusal_numbers refusal_of (λ r. (refusal_back r).0)

-- a fault's refusal has the fault's own number and row
pub fault_numbers_lem : (f : Fault) (i : ℕ) → refusal_numbers (of_fault f i) ≡ in_message i (fault_numbers f)
fault_numbers_lem fault.Frame i = refl
fault_numbers_lem fault.Code i = refl
fault_numbers_lem fault.Trailer i = refl
fault_numbers_lem fault.Length i = refl
fault_numbers_lem fault.Checksum i = refl
fault_numbers_lem fault.Numbering i = refl
fault_numbers_lem (fault.Field row) i = refl
fault_numbers_lem (fault.Range row) i = refl
fault_numbers_lem fault.Contract i = refl

pub fault_told : (r : Refusal) (f : Fault) (i : ℕ) → refusal_numbers r ≡ in_message i (fault_numbers f) → r ≡ of_fault f i
fault_told r f i e = refusal_told r (of_fault f i) (e ∙ sym (fault_numbers_lem f i))

-- no refusal's numbers are an accepted call's
pub never_behind : (r : Refusal) (behind values : List ℕ) → refusal_numbers r ++ behind ≡ 0 ∷ values → ⊥
never_behind r behind values e = true≢false (sym (ap accepts e) ∙ (refusal_behind r behind).1)

pub never : (r : Refusal) (values : List ℕ) → refusal_numbers r ≡ 0 ∷ values → ⊥
never r values e = never_behind r [] values (append-nil (refusal_numbers r) ∙ e)

-- a refusal's number is one of the table's, 1 to 18
pub in_table : (r : Refusal) → (1 ≤ get_or (refusal_numbers r) 0 0) × (get_or (refusal_numbers r) 0 0 ≤ 18)
in_table Size = (omega arith, omega arith)
in_table Packed = (omega arith, omega arith)
in_table Flag = (omega arith, omega arith)
in_table Count = (omega arith, omega arith)
in_table (Frame message) = (omega arith, omega arith)
in_table (Code message) = (omega arith, omega arith)
in_table (Trailer message) = (omega arith, omega arith)
in_table (Length message) = (omega arith, omega arith)
in_table (Checksum message) = (omega arith, omega arith)
in_table (Numbering message) = (omega arith, omega arith)
in_table (Field message row) = (omega arith, omega arith)
in_table (Range message row) = (omega arith, omega arith)
in_table (Contract message) = (omega arith, omega arith)
in_table (Gaps message) = (omega arith, omega arith)
in_table (Memory wanted) = (omega arith, omega arith)
in_table ListOf = (omega arith, omega arith)
in_table NoGap = (omega arith, omega arith)
in_table State = (omega arith, omega arith)
