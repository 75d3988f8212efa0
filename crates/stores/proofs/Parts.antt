-- The rows of an update behind its first ones.
use Rattle.std.proofs.Common.{ℕ, ◌-◌, ◌≤◌, ◌≡◌, ap, ◌∙◌, List, arith, length, take, drop}
use Rattle.laws.specs.Lists.{middle}
use Rattle.forms.specs.declared.forms.Form.{Form}
use Rattle.forms.specs.Forms.{rows_of}
use Rattle.forms.specs.FormsLaws.{fits}
use Rattle.forms.specs.Sizes.{most_rows}

-- there are as many cells as rows
pub few_rows : (form : Form) (cells : List ℕ) (end : ℕ) → end ≡ length (rows_of form) → length cells ≡ most_rows → end ≤ length cells
few_rows form cells end e w = omega (arith, e, (fits form).rows_fit, w)

-- the cells from a place to the rows' end are those behind the first ones
pub part_is : (form : Form) (cells : List ℕ) (k end : ℕ) → end ≡ length (rows_of form) → length cells ≡ most_rows
    → take (end - k) (drop k cells) ≡ drop k (take (length (rows_of form)) cells)
part_is form cells k end e w = middle cells k end (few_rows form cells end e w) ∙ ap (λ (n : ℕ). drop k (take n cells)) e
