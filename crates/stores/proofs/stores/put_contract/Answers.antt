-- The session and the market type before the other rows; between them "none" where the form has no time stamp.
use Rattle.std.proofs.Common.{ℕ, suc, ◌+◌, ◌-◌, ◌≤◌, ◌≡◌, ap, ap₂, subst, sym, ◌∙◌, Bool, true, false, List, ◌∷◌, ◌++◌, arith, length, get_or, take, drop, length-set}
use Rattle.std.proofs.lemmas.List.Edits.{sets}
use Rattle.forms.specs.declared.forms.Form.{Form}
use Rattle.forms.specs.Forms.{rows_of, session_of, is_stamped}
use Rattle.forms.specs.Sizes.{key_row_count}
use Rattle.layout.specs.Cells.{none, session_cell}
use Rattle.slots.specs.Places.{no_stamp}
use Rattle.stores.specs.StoresLaws.{store_laid, record_laid}
use Rattle.stores.proofs.Parts.{few_rows, part_is}
use Rattle.stores.proofs.stores.put_contract.Goals.{then-not-is_stamped, else-not-is_stamped}
use Rattle.stores.proofs.stores.put_contract.Goals as goal

abbrev rest_of : Form → List ℕ → List ℕ
rest_of form cells = drop 6 (take (length (rows_of form)) cells)

-- the rows with and without a time stamp, as the form says
laid : (stores cells : List ℕ) (at : ℕ) (form : Form) (t : Bool) → is_stamped form ≡ t → {session : ℕ} {part : List ℕ} → session ≡ session_cell (session_of form) → part ≡ rest_of form cells
    → sets stores at (session ∷ get_or cells key_row_count 0 ∷ (no_stamp t ++ part))
    ≡ sets stores at (session_cell (session_of form) ∷ get_or cells key_row_count 0 ∷ (no_stamp (is_stamped form) ++ rest_of form cells))
laid stores cells at form t e s p =
    ap₂ (λ (n : ℕ) (l : List ℕ). sets stores at (n ∷ get_or cells key_row_count 0 ∷ (no_stamp t ++ l))) s p
    ∙ ap (λ (b : Bool). sets stores at (session_cell (session_of form) ∷ get_or cells key_row_count 0 ∷ (no_stamp b ++ rest_of form cells))) (sym e)

-- there is room for them
room : (stores cells : List ℕ) (at : ℕ) (form : Form) (t : Bool) → is_stamped form ≡ t
    → at + suc (suc (length (no_stamp (is_stamped form) ++ rest_of form cells))) ≤ length stores
    → at + suc (suc (length (no_stamp t ++ rest_of form cells))) ≤ length stores
room stores cells at form t e h = subst (λ (b : Bool). at + suc (suc (length (no_stamp b ++ rest_of form cells))) ≤ length stores) e h

pub slice_bounds-put-end : goal.slice_bounds-put-end
slice_bounds-put-end c = omega (arith, few_rows c.args.form c.args.cells.now _ c.count_of-end.ensures c.told-cells, c.told-cells)

pub put-requires : goal.put-requires
put-requires c =
    let stores = c.args.stores.now in
    let cells = c.args.cells.now in
    let form = c.args.form in
    let at = c.args.at in
    rw (part_is form cells 6 _ c.count_of-end.ensures c.told-cells) (elim c.if-not-is_stamped.branch [
      | then-not-is_stamped w ↦
          let fits = room stores cells at form false (sym c.is_stamped.ensures ∙ w.if-not-is_stamped.true) c.requires.1 in
          let long : length c.if-not-is_stamped.stores ≡ length stores = ap length w.stores-is ∙ simp length-set in
          omega (arith, long, w.rest-is, fits)
      | else-not-is_stamped w ↦
          let fits = room stores cells at form true (sym c.is_stamped.ensures ∙ w.if-not-is_stamped.false) c.requires.1 in
          let long : length c.if-not-is_stamped.stores ≡ length stores = ap length w.stores-is ∙ simp length-set in
          omega (arith, long, w.rest-is, fits)
    ])

pub returns : goal.returns
returns c =
    let stores = c.args.stores.now in
    let cells = c.args.cells.now in
    let form = c.args.form in
    let at = c.args.at in
    let session = c.session_cell.result in
    let market = get_or cells key_row_count 0 in
    let part = take (c.count_of-end.result - 6) (drop 6 cells) in
    let session_is : session ≡ session_cell (session_of form) = c.session_cell.ensures ∙ ap session_cell c.session_of.ensures in
    let rest = part_is form cells 6 _ c.count_of-end.ensures c.told-cells in
    let third : at + 2 + 1 ≡ at + 3 = omega arith in
    c.put.ensures ∙ elim c.if-not-is_stamped.branch [
      | then-not-is_stamped w ↦
          ap₂ (λ (l : List ℕ) (n : ℕ). sets l n part) w.stores-is (w.rest-is ∙ third)
          ∙ store_laid stores at session market none part
          ∙ laid stores cells at form false (sym c.is_stamped.ensures ∙ w.if-not-is_stamped.true) session_is rest
      | else-not-is_stamped w ↦
          ap₂ (λ (l : List ℕ) (n : ℕ). sets l n part) w.stores-is w.rest-is
          ∙ record_laid stores at session market part
          ∙ laid stores cells at form true (sym c.is_stamped.ensures ∙ w.if-not-is_stamped.false) session_is rest
    ]
