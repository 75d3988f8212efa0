-- What the promises over a lent row of runs settle: one outcome, a refusal that changes no run, 15 with the runs wanted
-- (proofs/TooFew), and else the answer of the call over numbers, so that what is known of that call is known of this one.
use Rattle.std.specs.Prelude.{ℕ, ◌≤◌, ◌≡◌, refl, false, List, [], ◌∷◌, eqb, length, get_or, Result, Ok, Err}
use Rattle.std.proofs.Common.{ap, sym, ◌∙◌, subst}
use Rattle.std.proofs.Math.Option.{none, some}
use Rattle.laws.specs.RulesLaws.{unlike}
use Rattle.forms.specs.declared.rows.Level.{Level}
use Rattle.state.specs.declared.answers.Judged.{Judged}
use Rattle.state.specs.declared.answers.Recorded.{Recorded}
use Rattle.forms.specs.declared.forms.Form.{Form}
use Rattle.forms.specs.declared.forms.Item.{Item}
use Rattle.pairs.specs.Lists.{Lists}
use Rattle.state.specs.declared.refusal.Refusal.{Refusal}
use Rattle.state.specs.Answers.{started_numbers, judged_numbers, listed_numbers, written_off_numbers, recorded_numbers, Listed, WrittenOff}
use Rattle.state.specs.AnswersLaws.{started_told, judged_told, listed_told, written_off_told, recorded_told, refused_by_lem}
use Rattle.starting.specs.StartPromises.{StartedBox}
use Rattle.listing.specs.ListPromises.{ListedRuns, WroteOffRun}
use Rattle.reading.specs.Reads.{ReadsFor}
use Rattle.starting.specs.StartPromisesLaws.{one_started, start_refusal_lem}
use Rattle.listing.specs.ListPromisesLaws.{one_listed, one_written_off, list_refusal_lem, off_refusal_lem}
use Rattle.reading.specs.ReadsLaws.{one_read}
use Rattle.state.specs.Memory.{Lent, lends}
use Rattle.batch.specs.Promises.{JudgedBatch, TookBatch}
use Rattle.state.specs.Refusals.{refusal_numbers}
use Rattle.state.specs.RefusalsLaws.{never_behind}
use Rattle.batch.proofs.TookLaws.{one_judged, one_took, refused_keeps}
use Rattle.copies.specs.declared.run.Run.{Run}
use Rattle.copies.specs.Rows.{flat}
use Rattle.runs.specs.Wanted.{runs_wanted, in_runs}
use Rattle.runs.specs.WantedLaws.{in_runs_enough, in_runs_other, in_runs_first}
use Rattle.copies.specs.FlatLaws.{flat_told}
use Rattle.runs.specs.Promises.{Over, StartedRuns, JudgedRuns, TookRuns, ListedGaps, WroteOffRuns, ReadsRuns}

-- ---- one outcome

-- memory left of which the numbers are the same has the same runs
left_told : {lists : Lists} {records records' : List ℕ} (rows rows' : List Run) → lends lists (flat rows) records ≡ lends lists (flat rows') records' → (rows ≡ rows') × (records ≡ records')
left_told rows rows' e = (flat_told rows rows' (ap (λ (l : Lent). l.rows) e), ap (λ (l : Lent). l.records) e)

pub one_started_runs : {lists : Lists} {starts records records' records'' : List ℕ} {rows rows' rows'' : List Run} (a b : Result (Unit {0}) Refusal) → StartedRuns lists starts rows records a rows' records'
    → StartedRuns lists starts rows records b rows'' records'' → (a ≡ b) × (rows' ≡ rows'') × (records' ≡ records'')
one_started_runs {lists} {rows = rows} {rows' = rows'} {rows'' = rows''} a b p q =
    let same = one_started p.core q.core p.promised q.promised in
    let left = left_told rows' rows'' same.1 in
    (started_told a b (p.answers ∙ ap (λ (c : Result (Unit {0}) Refusal). in_runs lists.contracts (length rows) (started_numbers c)) same.0 ∙ sym q.answers), left.0, left.1)

pub one_judged_runs : {lists : Lists} {records batch : List ℕ} {rows : List Run} (a b : Judged) → JudgedRuns lists rows records batch a → JudgedRuns lists rows records batch b → a ≡ b
one_judged_runs {lists} {records} {batch} {rows} a b p q =
    judged_told a b (p.answers ∙ ap (λ (c : Judged). in_runs lists.contracts (length rows) (judged_numbers c)) (one_judged (lends lists (flat rows) records) batch p.core q.core p.promised q.promised) ∙ sym q.answers)

pub one_took_runs : {lists : Lists} {records batch records' records'' : List ℕ} {rows rows' rows'' : List Run} (a b : Judged) → TookRuns lists rows records batch a rows' records'
    → TookRuns lists rows records batch b rows'' records'' → (a ≡ b) × (rows' ≡ rows'') × (records' ≡ records'')
one_took_runs {lists} {records} {batch} {records'} {records''} {rows} {rows'} {rows''} a b p q =
    let same = one_took (lends lists (flat rows) records) batch p.core q.core (lends lists (flat rows') records') (lends lists (flat rows'') records'') p.promised q.promised in
    let left = left_told rows' rows'' same.1 in
    (judged_told a b (p.answers ∙ ap (λ (c : Judged). in_runs lists.contracts (length rows) (judged_numbers c)) same.0 ∙ sym q.answers), left.0, left.1)

pub one_listed_gaps : {lists : Lists} {records cells cells' cells'' : List ℕ} {rows : List Run} {letter : ℕ} (a b : Listed) → ListedGaps lists rows records letter cells a cells'
    → ListedGaps lists rows records letter cells b cells'' → (a ≡ b) × (cells' ≡ cells'')
one_listed_gaps {lists} {rows = rows} a b p q =
    let same = one_listed p.core q.core p.promised q.promised in
    (listed_told a b (p.answers ∙ ap (λ (c : Listed). in_runs lists.contracts (length rows) (listed_numbers c)) same.0 ∙ sym q.answers), same.1)

pub one_wrote_off_runs : {lists : Lists} {records : List ℕ} {rows rows' rows'' : List Run} {letter : ℕ} (a b : WrittenOff) → WroteOffRuns lists rows records letter a rows'
    → WroteOffRuns lists rows records letter b rows'' → (a ≡ b) × (rows' ≡ rows'')
one_wrote_off_runs {lists} {rows = rows} {rows' = rows'} {rows'' = rows''} a b p q =
    let same = one_written_off p.core q.core p.promised q.promised in
    (written_off_told a b (p.answers ∙ ap (λ (c : WrittenOff). in_runs lists.contracts (length rows) (written_off_numbers c)) same.0 ∙ sym q.answers), (left_told rows' rows'' same.1).0)

pub one_read_runs : {A : Type 0} {show : Form → List ℕ → A} {blank quote quote' : A} {item : Item} {lists : Lists} {records key : List ℕ} {rows : List Run} {letter : ℕ} {level : Level} (a b : Recorded)
    → ReadsRuns show blank item lists rows records letter key level a quote → ReadsRuns show blank item lists rows records letter key level b quote' → (a ≡ b) × (quote ≡ quote')
one_read_runs {lists = lists} {rows = rows} a b p q =
    let same = one_read p.core q.core p.promised q.promised in
    (recorded_told a b (p.answers ∙ ap (λ (c : Recorded). in_runs lists.contracts (length rows) (recorded_numbers c)) same.0 ∙ sym q.answers), same.1)

-- ---- the answer of the call over numbers

-- an answer that isn't 15
told_other : (lists : Lists) (lent : ℕ) (numbers told : List ℕ) → told ≡ in_runs lists.contracts lent numbers → eqb (get_or told 0 0) 15 ≡ false → told ≡ numbers
told_other lists lent numbers told e n =
    let first = ap (λ (l : List ℕ). get_or l 0 0) e ∙ in_runs_first lists.contracts lent numbers in
    e ∙ in_runs_other lists.contracts lent numbers (ap (λ (k : ℕ). eqb k 15) (sym first) ∙ n)

-- where the rows wanted are lent, as after every accepted start, it is the answer of the call over numbers
module _ (lists : Lists) (rows : List Run) (enough : runs_wanted lists.contracts ≤ length rows) where
  told_enough : {told numbers : List ℕ} → told ≡ in_runs lists.contracts (length rows) numbers → told ≡ numbers
  told_enough {told} {numbers} e = e ∙ in_runs_enough lists.contracts (length rows) numbers enough

  over_enough : {A : Type 0} {numbers_of : A → List ℕ} {rows' : List Run} {promise : List ℕ → List ℕ → A → Type 0} → ((a b : A) → numbers_of a ≡ numbers_of b → a ≡ b)
      → (answer : A) → Over numbers_of lists.contracts rows rows' promise answer → promise (flat rows) (flat rows') answer
  over_enough {rows' = rows'} {promise} told answer p = subst (promise (flat rows) (flat rows')) (sym (told answer p.core (told_enough p.answers))) p.promised

  pub judged_enough : {records batch : List ℕ} (answer : Judged) → JudgedRuns lists rows records batch answer → JudgedBatch (lends lists (flat rows) records) batch answer
  judged_enough answer = over_enough judged_told answer

  pub took_enough : {records batch records' : List ℕ} {rows' : List Run} (answer : Judged) → TookRuns lists rows records batch answer rows' records' → TookBatch (lends lists (flat rows) records) batch answer (lends lists (flat rows') records')
  took_enough answer = over_enough judged_told answer

  pub listed_enough : {records cells cells' : List ℕ} {letter : ℕ} (answer : Listed) → ListedGaps lists rows records letter cells answer cells' → ListedRuns (lends lists (flat rows) records) letter cells answer cells'
  listed_enough answer = over_enough listed_told answer

  pub read_enough : {A : Type 0} {show : Form → List ℕ → A} {blank quote : A} {item : Item} {records key : List ℕ} {letter : ℕ} {level : Level} (answer : Recorded)
      → ReadsRuns show blank item lists rows records letter key level answer quote → ReadsFor show blank item (lends lists (flat rows) records) letter key level answer quote
  read_enough answer = over_enough recorded_told answer

  pub wrote_off_enough : {records : List ℕ} {letter : ℕ} {rows' : List Run} (answer : WrittenOff) → WroteOffRuns lists rows records letter answer rows' → WroteOffRun (lends lists (flat rows) records) letter answer (lends lists (flat rows') records)
  wrote_off_enough answer = over_enough written_off_told answer

-- an accepted start is one over numbers
pub started_core : {lists : Lists} {starts records records' : List ℕ} {rows rows' : List Run} → StartedRuns lists starts rows records (Ok tt) rows' records'
    → StartedBox (lends lists (flat rows) records) starts (Ok tt) (lends lists (flat rows') records')
started_core {lists} {starts} {records} {records'} {rows} {rows'} p =
    subst (λ (c : Result (Unit {0}) Refusal). StartedBox (lends lists (flat rows) records) starts c (lends lists (flat rows') records'))
    (sym (started_told (Ok tt) p.core (told_other lists (length rows) (started_numbers p.core) (0 ∷ []) p.answers refl))) p.promised

-- ---- a refusal changes no run, no record and no cell

-- nor is it the answer of an accepted call over numbers
accepted_never : (lists : Lists) (lent : ℕ) (r : Refusal) (values : List ℕ) → refusal_numbers r ≡ in_runs lists.contracts lent (0 ∷ values) → none ≡ some r
accepted_never lists lent r values e = refused_by_lem none values r (e ∙ in_runs_other lists.contracts lent (0 ∷ values) refl)

pub started_refused : {lists : Lists} {starts records records' : List ℕ} {rows rows' : List Run} (r : Refusal) → StartedRuns lists starts rows records (Err r) rows' records' → (rows' ≡ rows) × (records' ≡ records)
started_refused {lists} {starts} {records} {records'} {rows} {rows'} r p = go p.core p.promised p.answers
  where
    go : (core : Result (Unit {0}) Refusal) → StartedBox (lends lists (flat rows) records) starts core (lends lists (flat rows') records') → refusal_numbers r ≡ in_runs lists.contracts (length rows) (started_numbers core) → (rows' ≡ rows) × (records' ≡ records)
    go (Ok _) q e = absurd (unlike (sym (accepted_never lists (length rows) r [] e)))
    go (Err s) q e = left_told rows' rows (start_refusal_lem s q).1

pub took_refused : {lists : Lists} {records batch records' : List ℕ} {rows rows' : List Run} (r : Refusal) {compared : ℕ} → TookRuns lists rows records batch (Judged.Refused r compared) rows' records' → (rows' ≡ rows) × (records' ≡ records)
took_refused {lists} {records} {batch} {records'} {rows} {rows'} r {compared} p = go p.core p.promised p.answers
  where
    go : (core : Judged) → TookBatch (lends lists (flat rows) records) batch core (lends lists (flat rows') records') → judged_numbers (Judged.Refused r compared) ≡ in_runs lists.contracts (length rows) (judged_numbers core) → (rows' ≡ rows) × (records' ≡ records)
    go (Judged.Accepted taken old heartbeats keys) q e =
        absurd (never_behind r (compared ∷ []) _ (e ∙ in_runs_other lists.contracts (length rows) (judged_numbers (Judged.Accepted taken old heartbeats keys)) refl))
    go (Judged.Refused s keys) q e = left_told rows' rows (refused_keeps (lends lists (flat rows) records) batch s (lends lists (flat rows') records') q)

pub listed_refused : {lists : Lists} {records cells cells' : List ℕ} {rows : List Run} {letter : ℕ} (r : Refusal) → ListedGaps lists rows records letter cells (Err r) cells' → cells' ≡ cells
listed_refused {lists} {records} {cells} {cells'} {rows} {letter} r p = go p.core p.promised p.answers
  where
    go : (core : Listed) → ListedRuns (lends lists (flat rows) records) letter cells core cells' → refusal_numbers r ≡ in_runs lists.contracts (length rows) (listed_numbers core) → cells' ≡ cells
    go (Ok listed) q e = absurd (unlike (sym (accepted_never lists (length rows) r (listed.highest ∷ listed.runs ∷ []) e)))
    go (Err s) q e = (list_refusal_lem s q).1

pub wrote_off_refused : {lists : Lists} {records : List ℕ} {rows rows' : List Run} {letter : ℕ} (r : Refusal) → WroteOffRuns lists rows records letter (Err r) rows' → rows' ≡ rows
wrote_off_refused {lists} {records} {rows} {rows'} {letter} r p = go p.core p.promised p.answers
  where
    go : (core : WrittenOff) → WroteOffRun (lends lists (flat rows) records) letter core (lends lists (flat rows') records) → refusal_numbers r ≡ in_runs lists.contracts (length rows) (written_off_numbers core) → rows' ≡ rows
    go (Ok run) q e = absurd (unlike (sym (accepted_never lists (length rows) r (run.first ∷ run.last ∷ []) e)))
    go (Err s) q e = (left_told rows' rows (off_refusal_lem s q).1).0
