-- What the promises settle: one outcome, a refusal that leaves everything, and what an accepted start leaves.
use Rattle.std.specs.Prelude.{ℕ, ◌<◌, ◌≡◌, refl, List, [], ◌∷◌, ◌++◌, length, get_or, drop, replicate, Result, Ok, Err}
use Rattle.std.proofs.Common.{sym, ap₂, ◌∙◌, arith, length-append, length-drop, drop_at}
use Rattle.std.proofs.Math.Path.{ap}
use Rattle.std.proofs.Math.Option.{Option, none, some}
use Rattle.std.proofs.lemmas.List.{length-replicate, get_or-replicate}
use Rattle.std.proofs.Math.ListN.{get_or-append}
use Rattle.std.proofs.lemmas.List.Edits.{sets}
use Rattle.laws.specs.Rules.{first_broken}
use Rattle.files.specs.File.{segments_of}
use Rattle.pairs.specs.Lists.{Lists}
use Rattle.pairs.specs.NoSpreads.{no_spreads}
use Rattle.sequence.specs.Changes.{begun}
use Rattle.sequence.specs.GapsLaws.{begun_sound}
use Rattle.sequence.specs.Row.{gaps_of}
use Rattle.sequence.specs.RowLaid.{sound_gap_row}
use Rattle.sequence.specs.RowLaws.{laid_gaps, laid_sound}
use Rattle.pairs.specs.ItemsLaws.{sound_headers}
use Rattle.slots.specs.Slots.{Slot, SlotListed, records_wanted}
use Rattle.slots.specs.Places.{slot_at}
use Rattle.slots.specs.SlotsLaws.{slot_inside, slot_some}
use Rattle.state.specs.declared.refusal.Refusal.{Refusal}
use Rattle.state.specs.Answers.{answered, left_by}
use Rattle.state.specs.Memory.{Lent, lends, gap_row_cells, gap_rows_wanted, gap_row_of, SameBehind}
use Rattle.state.specs.GoodState.{GoodState}
use Rattle.state.specs.AnswersLaws.{started_told, written_told, refused_by_lem, accepted_by, left_as, left_new}
use Rattle.starting.specs.Start.{start_of, GoodStart}
use Rattle.starting.specs.StartActs.{start_broken, lent_started, started_row, started_rows, rows_started, records_cleared}
use Rattle.starting.specs.StartLaws.{start_exact, started_lengths, started_row_lem}
use Rattle.starting.specs.NoSpreadsRules.{no_spreads_rules}
use Rattle.starting.specs.StartPromises.{StartedBox, PutNoSpreads}

-- ---- one outcome

pub one_started : {lent lent' lent'' : Lent} {starts : List ℕ} (a b : Result (Unit {0}) Refusal) → StartedBox lent starts a lent' → StartedBox lent starts b lent'' → (a ≡ b) × (lent' ≡ lent'')
one_started a b p q = (started_told a b (p.answers ∙ sym q.answers), p.left ∙ sym q.left)

pub one_no_spreads : {list out out' out'' : List ℕ} (a b : Result ℕ Refusal) → PutNoSpreads list out a out' → PutNoSpreads list out b out'' → (a ≡ b) × (out' ≡ out'')
one_no_spreads a b p q = (written_told a b (p.answers ∙ sym q.answers), p.left ∙ sym q.left)

-- ---- by what its steps leave

module _ (lent : Lent) (starts : List ℕ) where
  pub start_refused : (r : Refusal) → start_broken lent starts ≡ some r → StartedBox lent starts (Err r) lent
  start_refused r e =
      record {
        answers = sym (ap (λ (o : Option Refusal). answered o []) e);
        left = sym (ap (λ (o : Option Refusal). left_by o lent (lent_started lent starts)) e);
      }

  pub start_done : start_broken lent starts ≡ none → {rows' records' : List ℕ} → rows' ≡ rows_started lent.lists starts lent.rows → records' ≡ records_cleared lent.lists lent.records
      → StartedBox lent starts (Ok tt) (lends lent.lists rows' records')
  start_done e r s =
      record {
        answers = sym (ap (λ (o : Option Refusal). answered o []) e);
        left = ap₂ (lends lent.lists) r s ∙ sym (ap (λ (o : Option Refusal). left_by o lent (lent_started lent starts)) e);
      }

-- ---- a refused call: the first broken rule's refusal, and nothing changes

pub start_refusal_lem : {lent lent' : Lent} {starts : List ℕ} (r : Refusal) → StartedBox lent starts (Err r) lent'
    → (start_broken lent starts ≡ some r) × (lent' ≡ lent)
start_refusal_lem {lent} {starts = starts} r p =
    let broken = refused_by_lem (start_broken lent starts) [] r p.answers in
    (broken, p.left ∙ left_as _ r lent (lent_started lent starts) broken)

pub no_spreads_refusal_lem : {list out out' : List ℕ} (r : Refusal) → PutNoSpreads list out (Err r) out'
    → (first_broken (no_spreads_rules list (length out)) ≡ some r) × (out' ≡ out)
no_spreads_refusal_lem {list} {out} r p =
    let broken = refused_by_lem (first_broken (no_spreads_rules list (length out))) (length (no_spreads list) ∷ []) r p.answers in
    (broken, p.left ∙ left_as _ r out (sets out 0 (no_spreads list)) broken)

-- ---- an accepted start

module _ {lent lent' : Lent} {starts : List ℕ} (p : StartedBox lent starts (Ok tt) lent') where
  abbrev lists : Lists
  lists = lent.lists

  held : start_broken lent starts ≡ none
  held = (accepted_by (start_broken lent starts) [] [] p.answers).0

  pub start_good : GoodStart lists starts (length lent.rows) (length lent.records)
  start_good = (start_exact lists starts (length lent.rows) (length lent.records)).0 held

  pub start_left : lent' ≡ lent_started lent starts
  start_left = p.left ∙ left_new _ lent (lent_started lent starts) held

  rows_are : lent'.rows ≡ started_rows (segments_of lists.contracts) starts ++ drop (gap_rows_wanted lists) lent.rows
  unfolding rows_started
  rows_are = ap (λ (l : Lent). l.rows) start_left

  records_are : lent'.records ≡ replicate (records_wanted lists) 0 ++ drop (records_wanted lists) lent.records
  unfolding records_cleared
  records_are = ap (λ (l : Lent). l.records) start_left

  -- each listed segment's gaps are those of its start number
  pub row_started : (i : ℕ) → i < segments_of lists.contracts → gap_row_of lent'.rows i ≡ started_row (start_of starts i)
  row_started i h = ap (λ (ns : List ℕ). gap_row_of ns i) rows_are ∙ started_row_lem starts (segments_of lists.contracts) (drop (gap_rows_wanted lists) lent.rows) i h

  pub gaps_started : (i : ℕ) → i < segments_of lists.contracts → gaps_of (gap_row_of lent'.rows i) ≡ begun (start_of starts i)
  gaps_started i h = ap gaps_of (row_started i h) ∙ laid_gaps (replicate gap_row_cells 0) (begun (start_of starts i))

  -- what is left passes the checks of the calls that follow
  pub start_leaves : GoodState lent'
  start_leaves =
      let same : lent'.lists ≡ lists = ap (λ (l : Lent). l.lists) start_left in
      let good = start_good in
      let rows_lent = good.rows_lent in
      let records_lent = good.records_lent in
      let rows_long : length lent'.rows ≡ length lent.rows = ap length rows_are ∙ simp (length-append, started_lengths starts (segments_of lists.contracts), length-drop) (omega arith) in
      let records_long : length lent'.records ≡ length lent.records = ap length records_are ∙ simp (length-append, length-replicate, length-drop) (omega arith) in
      record {
        headers = rw same (sound_headers good.lists_sound);
        rows_lent = rw (same, rows_long) rows_lent;
        records_lent = rw (same, records_long) records_lent;
        rows_sound = rw same λ i h. ap sound_gap_row (row_started i h) ∙ laid_sound (replicate gap_row_cells 0) (begun (start_of starts i)) refl (begun_sound (start_of starts i) (good.started i h));
      }

  -- every record is cleared, so that each contract reads "no record"
  pub records_cleared_lem : (k : ℕ) → k < records_wanted lists → get_or lent'.records k 0 ≡ 0
  records_cleared_lem k h =
      let zeros : List ℕ = replicate (records_wanted lists) 0 in
      let l : length zeros ≡ records_wanted lists = length-replicate (records_wanted lists) 0 in
      ap (λ (ns : List ℕ). get_or ns k 0) records_are
      ∙ get_or-append zeros (drop (records_wanted lists) lent.records) 0 k (omega arith)
      ∙ get_or-replicate (records_wanted lists) k 0 0 h

  pub no_records : (s : Slot) → SlotListed lists s → get_or lent'.records (slot_at lists s) 0 ≡ 0
  no_records s there = records_cleared_lem (slot_at lists s) (omega (arith, slot_inside lists (sound_headers start_good.lists_sound) s there, slot_some s))

-- ---- no call writes past the cells wanted for state

pub start_nothing_behind : {lent lent' : Lent} {starts : List ℕ} (answer : Result (Unit {0}) Refusal) → StartedBox lent starts answer lent' → SameBehind lent lent'
start_nothing_behind (Err r) p = rw (start_refusal_lem r p).1 (record { rows_behind = refl; records_behind = refl })
start_nothing_behind {lent} {starts = starts} (Ok tt) p =
    let lists : Lists = lent.lists in
    record {
      rows_behind = ap (drop (gap_rows_wanted lists)) (rows_are p) ∙ drop_at (started_rows (segments_of lists.contracts) starts) _ (gap_rows_wanted lists) (started_lengths starts (segments_of lists.contracts));
      records_behind = ap (drop (records_wanted lists)) (records_are p) ∙ drop_at (replicate (records_wanted lists) 0) _ (records_wanted lists) (length-replicate (records_wanted lists) 0);
    }
