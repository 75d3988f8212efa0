-- A record that holds an update shows the update, whichever of its forms it was sent in.
use Prim.Native.Nat.{ℕ, ◌+◌, ◌-◌, ◌≤◌, ◌<◌}
use Rattle.std.specs.Prelude.{◌≡◌, refl, Bool, length, get_or, replicate}
use Rattle.std.proofs.Math.Path.{ap, ap₂}
use Rattle.std.proofs.Common.{sym, subst, ◌∙◌, length-append, get_or-take, get_or-drop, drop-drop}
use mathlib.Core.List.{List, ◌++◌}
use native.Mathlib.Omega.{arith}
use Rattle.std.proofs.Math.ListN.{take, drop, length-drop}
use Rattle.std.proofs.lemmas.List.{length-replicate, length-map}
use Rattle.laws.specs.Lists.{middle}
use Rattle.forms.specs.declared.rows.Level.{Level}
use Rattle.forms.specs.declared.forms.Form.{Form}
use Rattle.forms.specs.declared.forms.Form.TheVariants.{Heartbeat, LevelOne, LevelTwo, PairOne, PairTwo, FutureOne, FutureTwo, PreOpenOne, PreOpenTwo}
use Rattle.forms.specs.declared.forms.Item.{Item}
use Rattle.forms.specs.declared.forms.Item.TheVariants.{Contract, Pair}
use Rattle.forms.specs.declared.forms.Session.{Session}
use Rattle.forms.specs.declared.forms.Session.TheVariants.{Normal, PreOpen}
use Rattle.forms.specs.declared.forms.Subject.{Subject}
use Rattle.forms.specs.declared.forms.Subject.TheVariants.{Nothing, Of}
use Rattle.forms.specs.Names.{Name, NamedRow}
use Rattle.forms.specs.Forms.{named_rows, rows_of, subject_of, session_of, record_form, key_rows_of}
use Rattle.forms.specs.FormsLaws.{fits, pair_normal}
use Rattle.forms.specs.Sizes.{most_rows}
use Rattle.layout.specs.Cells.{zeros_behind, session_cell, session_in}
use Rattle.quote.specs.Quote.{quote_of, field_value, values_by, values_of}
use Rattle.spread.specs.Spread.{spread_quote_of, spread_field_value, spread_values_of}
use Rattle.slots.specs.Slots.{cells_in_front, level_cells}
use Rattle.slots.specs.Places.{record_of, record_rows}
use Rattle.slots.specs.SlotsLaws.{cells_by_rows, some_front}
use Rattle.reading.specs.Record.{record_session, stamp_seen, cells_at}
use Rattle.reading.specs.Shown.{QuoteFor, shown, cells_for, stamp_in}

-- ---- a quote has as many cells as the most rows of a form

zeros_wide : (cells : List ℕ) → length cells ≤ most_rows → length (zeros_behind cells) ≡ most_rows
zeros_wide cells h = simp (length-append, length-replicate) (omega arith)

values_wide : (form : Form) (given : Name → ℕ) → length (zeros_behind (values_by (named_rows form) given)) ≡ most_rows
unfolding rows_of
values_wide form given =
    let few : length (rows_of form) ≤ most_rows = (fits form).rows_fit in
    zeros_wide (values_by (named_rows form) given) (omega (arith, few, length-map (named_rows form) (λ (r : NamedRow). given r.name), length-map (named_rows form) (λ (r : NamedRow). r.row)))

pub cells_wide : (item : Item) (form : Form) (quote : QuoteFor item) → length (cells_for item form quote) ≡ most_rows
unfolding values_of spread_values_of
cells_wide Contract form quote = values_wide form (field_value quote)
cells_wide Pair form quote = values_wide form (spread_field_value quote)

-- ---- what it shows

-- the cells by row of a record that holds an update: those of the key, and any behind the last row, are 0
abbrev pub cells_kept : Item → Form → List ℕ → List ℕ
cells_kept item form cells = stamp_seen (stamp_in item form) (zeros_behind (replicate (key_rows_of item) 0 ++ drop (cells_in_front item - 1) (record_of item form cells)))

abbrev Shown : Subject → Form → Type 0
Shown Nothing form = Unit {0}
Shown (Of item level) form = (quote : QuoteFor item) → shown item (record_form item level) (cells_kept item form (cells_for item form quote)) ≡ shown item form (cells_for item form quote)

form_shown : (form : Form) → Shown (subject_of form) form
unfolding rows_of named_rows values_of spread_values_of quote_of spread_quote_of
form_shown Heartbeat = tt
form_shown LevelOne = λ quote. refl
form_shown LevelTwo = λ quote. refl
form_shown PairOne = λ quote. refl
form_shown PairTwo = λ quote. refl
form_shown FutureOne = λ quote. refl
form_shown FutureTwo = λ quote. refl
form_shown PreOpenOne = λ quote. refl
form_shown PreOpenTwo = λ quote. refl

pub kept_shown : (item : Item) (level : Level) (form : Form) → subject_of form ≡ Of item level → (quote : QuoteFor item)
    → shown item (record_form item level) (cells_kept item form (cells_for item form quote)) ≡ shown item form (cells_for item form quote)
kept_shown item level form e = subst (λ (subject : Subject). Shown subject form) e (form_shown form)

-- ---- in lent memory

session_again : (s : Session) → session_in (session_cell s) ≡ s
session_again Normal = refl
session_again PreOpen = refl

-- a record whose cells behind the number are an update's
module _ (item : Item) (level : Level) (form : Form) (tells : subject_of form ≡ Of item level) (records : List ℕ) (at : ℕ) (cells : List ℕ)
    (kept : take (level_cells item level - 1) (drop (at + 1) records) ≡ record_of item form cells)
  where
    -- has its session
    pub session_kept : record_session item records at ≡ session_of form
    session_kept = by item tells kept
      where
        by : (item : Item) → subject_of form ≡ Of item level → take (level_cells item level - 1) (drop (at + 1) records) ≡ record_of item form cells
            → record_session item records at ≡ session_of form
        by Contract tells kept =
            let some : 0 < level_cells Contract level - 1 = omega (arith, cells_by_rows Contract level) in
            let same : at + 1 ≡ at + 1 + 0 = omega arith in
            ap session_in (ap (λ (k : ℕ). get_or records k 0) same ∙ sym (get_or-drop (at + 1) records 0 0)
            ∙ sym (get_or-take (level_cells Contract level - 1) (drop (at + 1) records) 0 0 some) ∙ ap (λ (l : List ℕ). get_or l 0 0) kept)
            ∙ session_again (session_of form)
        by Pair tells kept = sym (pair_normal form level tells)

    -- and shows what the update holds
    pub shown_kept : at + level_cells item level ≤ length records → (quote : QuoteFor item) → cells ≡ cells_for item form quote → (stamped : Bool) → stamped ≡ stamp_in item form
        → shown item (record_form item level) (cells_at item stamped records at level) ≡ shown item form cells
    unfolding cells_at
    shown_kept room quote own stamped same =
        let end : ℕ = level_cells item level - 1 in
        let first : ℕ = cells_in_front item - 1 in
        let some = some_front item in
        let long : record_rows item level ≡ end - first = omega (arith, cells_by_rows item level) in
        let place : at + cells_in_front item ≡ at + 1 + first = omega arith in
        let rows : take (record_rows item level) (drop (at + cells_in_front item) records) ≡ drop first (record_of item form cells) =
        ap₂ (λ (n k : ℕ). take n (drop k records)) long place ∙ ap (take (end - first)) (sym (drop-drop first (at + 1) records))
        ∙ middle (drop (at + 1) records) first end (omega (arith, length-drop (at + 1) records)) ∙ ap (drop first) kept in
        ap₂ (λ (t : Bool) (l : List ℕ). shown item (record_form item level) (stamp_seen t (zeros_behind (replicate (key_rows_of item) 0 ++ l)))) same rows
        ∙ ap (λ (l : List ℕ). shown item (record_form item level) (cells_kept item form l)) own ∙ kept_shown item level form tells quote ∙ ap (shown item form) (sym own)
