-- Each promise holds exactly of what the step says: of its answer and of what it leaves, and of nothing else.
use Rattle.std.specs.Prelude.{ℕ, ◌≡◌, refl, Bool, true, false, cond, List, [], ◌∷◌, ◌↔◌, eqb, length, Result}
use Rattle.std.proofs.Common.{sym, ap, ap₂, subst, ◌∙◌}
use Rattle.std.proofs.Math.Option.{Option, none, some}
use Rattle.pairs.specs.Lists.{Lists}
use Rattle.forms.specs.declared.rows.Level.{Level}
use Rattle.std.proofs.lemmas.List.Edits.{sets}
use Rattle.forms.specs.declared.forms.Form.{Form}
use Rattle.forms.specs.declared.forms.Session.{Session}
use Rattle.layout.specs.Cells.{session_cell}
use Rattle.forms.specs.declared.forms.Item.{Item}
use Rattle.forms.specs.declared.forms.Item.TheVariants.{Contract, Pair}
use Rattle.pairs.specs.NoSpreads.{no_spreads}
use Rattle.sequence.specs.Gaps.{Gaps}
use Rattle.sequence.specs.Runs.{Run}
use Rattle.state.specs.declared.refusal.Refusal.{Refusal}
use Rattle.state.specs.declared.answers.Judged.{Judged}
use Rattle.state.specs.declared.answers.Recorded.{Recorded}
use Rattle.state.specs.Answers.{started_numbers, listed_numbers, written_off_numbers, recorded_numbers, written_numbers, answered, left_by, Listed, WrittenOff}
use Rattle.state.specs.Memory.{Lent}
use Rattle.turns.specs.Turns.{Acted, acted, refused}
use Rattle.batch.specs.Acts.{batch_acts, lent_after}
use Rattle.batch.specs.Promises.{JudgedBatch, TookBatch}
use Rattle.batch.proofs.TookLaws.{answer_numbers_lem, one_judged, one_took}
use Rattle.writer.specs.declared.writing.Code.{Code}
use Rattle.writer.specs.Writer.{length_written}
use Rattle.writer.specs.Chosen.{form_written}
use Rattle.writer.specs.WriterPromises.{WroteValues}
use Rattle.writer.specs.WriterPromisesLaws.{one_written}
use Rattle.starting.specs.StartActs.{lent_started}
use Rattle.listing.specs.ListActs.{list_values, runs_put, run_values, lowest_run, lent_written_off}
use Rattle.listing.specs.ListRules.{gaps_of_letter}
use Rattle.starting.specs.StartPromises.{StartedBox, PutNoSpreads}
use Rattle.listing.specs.ListPromises.{ListedRuns, WroteOffRun}
use Rattle.starting.specs.StartPromisesLaws.{one_started, one_no_spreads}
use Rattle.listing.specs.ListPromisesLaws.{one_listed, one_written_off}
use Rattle.reading.specs.ReadsLaws.{one_read}
use Rattle.reading.specs.Record.{record_number, record_session, record_of_key, record_values}
use Rattle.reading.specs.Shown.{QuoteFor, ReadsItem}
use Rattle.history.specs.Calls as calls
use Rattle.history.specs.Calls.{Answer, started, judged, took, listed, wrote_off, read, wrote, start, judge, take, list_gaps, write_off, read_record, with_lists}
use Rattle.history.specs.Step.{start_refusal, start_answer, batch_answer, list_refusal, list_answer, off_refusal, removed, off_answer, read_refusal, record_answer, read_answer, read_quote, write_refusal, write_answer, write_leaves, written, no_spreads_refusal, step}

-- ---- the answers by their numbers

start_numbers : (o : Option Refusal) → started_numbers (start_answer o) ≡ answered o []
start_numbers none = refl
start_numbers (some refusal) = refl

list_numbers : (o : Option Refusal) (g : Gaps) → listed_numbers (list_answer o g) ≡ answered o (list_values g)
list_numbers none g = refl
list_numbers (some refusal) g = refl

off_numbers : (o : Option Refusal) (r : Run) → written_off_numbers (removed o r) ≡ answered o (run_values r)
off_numbers none r = refl
off_numbers (some refusal) r = refl

record_numbers_lem : (o : Option Refusal) (n : ℕ) (s : Session) → recorded_numbers (record_answer o n s) ≡ answered o (record_values n s)
record_numbers_lem none n s = go (eqb n 0)
  where
    go : (t : Bool) → recorded_numbers (cond t Recorded.NoRecord (Recorded.Record n s)) ≡ 0 ∷ cond t (0 ∷ []) (1 ∷ n ∷ session_cell s ∷ [])
    go true = refl
    go false = refl
record_numbers_lem (some refusal) n s = refl

write_numbers : (o : Option Refusal) (n : ℕ) → written_numbers (write_answer o n) ≡ answered o (n ∷ [])
write_numbers none n = refl
write_numbers (some refusal) n = refl

-- ---- no call but a start changes the list

pub took_list : (lent : Lent) (letter : ℕ) (a : Acted) → (lent_after lent letter a).lists ≡ lent.lists
took_list lent letter (acted box) = refl
took_list lent letter (refused refusal) = refl

pub off_list : (lent : Lent) (letter : ℕ) (o : Option Refusal) → (left_by o lent (lent_written_off lent letter)).lists ≡ lent.lists
unfolding lent_written_off
off_list lent letter none = refl
off_list lent letter (some refusal) = refl

-- ---- the promises hold of what the step says

module _ (lent : Lent) where
  pub start_promised : (lists : Lists) (starts : List ℕ) → StartedBox (with_lists lists lent) starts (start_answer (start_refusal lent lists starts)) (with_lists lists (step lent (start lists starts)).left)
  start_promised lists starts =
      record {
        answers = start_numbers (start_refusal lent lists starts);
        left = go (start_refusal lent lists starts);
      }
    where
      go : (o : Option Refusal) → with_lists lists (left_by o lent (lent_started (with_lists lists lent) starts)) ≡ left_by o (with_lists lists lent) (lent_started (with_lists lists lent) starts)
      go none = refl
      go (some refusal) = refl

  pub judge_promised : (batch : List ℕ) → JudgedBatch lent batch (batch_answer lent batch)
  judge_promised batch = record { answers = answer_numbers_lem _ (batch_acts lent batch) }

  pub take_promised : (batch : List ℕ) → TookBatch lent batch (batch_answer lent batch) (step lent (take batch)).left
  take_promised batch = record { answers = answer_numbers_lem _ (batch_acts lent batch); left = refl }

  pub list_promised : (letter : ℕ) (cells : List ℕ)
      → ListedRuns lent letter cells (list_answer (list_refusal lent letter cells) (gaps_of_letter lent letter)) (left_by (list_refusal lent letter cells) cells (runs_put (gaps_of_letter lent letter) cells))
  list_promised letter cells = record { answers = list_numbers (list_refusal lent letter cells) (gaps_of_letter lent letter); cells_left = refl }

  pub off_promised : (letter : ℕ) → WroteOffRun lent letter (off_answer lent letter) (step lent (write_off letter)).left
  off_promised letter = record { answers = off_numbers (off_refusal lent letter) (lowest_run (gaps_of_letter lent letter)); left = refl }

  pub read_promised : (item : Item) (letter : ℕ) (key : List ℕ) (level : Level) → ReadsItem item lent letter key level (read_answer item lent letter key level) (read_quote item lent letter key level)
  read_promised item letter key level =
      record { answers = record_numbers_lem (read_refusal item lent letter key) (record_number lent.records (record_of_key item lent.lists letter key level)) (record_session item lent.records (record_of_key item lent.lists letter key level)); quotes = refl }

module _ (item : Item) (code : Code) (level : Level) (number : ℕ) (key : List ℕ) (cells : Form → List ℕ) (out : List ℕ) where
  abbrev said_written : Result ℕ Refusal
  said_written = write_answer (write_refusal item code level number key cells out) (length_written (form_written item code level))

  pub write_promised : WroteValues item code level number key cells out said_written (write_leaves item code level number key cells out)
  write_promised = record { answers = write_numbers (write_refusal item code level number key cells out) (length_written (form_written item code level)); out_left = refl }

module _ (list out : List ℕ) where
  abbrev said_none : Result ℕ Refusal
  said_none = write_answer (no_spreads_refusal list out) (length (no_spreads list))

  abbrev left_none : List ℕ
  left_none = left_by (no_spreads_refusal list out) out (sets out 0 (no_spreads list))

  pub no_spreads_promised : PutNoSpreads list out said_none left_none
  no_spreads_promised = record { answers = write_numbers (no_spreads_refusal list out) (length (no_spreads list)); left = refl }

-- ---- and of nothing else

both : {A B : Type 0} (P : A → B → Type 0) (a a' : A) (b b' : B) → a ≡ a' → b ≡ b' → P a b → P a' b'
both {A} {B} P a a' b b' e f p = subst (λ (x : A). P x b') e (subst (λ (y : B). P a y) f p)

-- what a reading's answer is made of
abbrev answer_in : Answer → Recorded
answer_in (started answer) = Recorded.NoRecord
answer_in (judged answer) = Recorded.NoRecord
answer_in (took answer) = Recorded.NoRecord
answer_in (listed answer cells) = Recorded.NoRecord
answer_in (wrote_off answer) = Recorded.NoRecord
answer_in (read item answer quote) = answer
answer_in (wrote answer out) = Recorded.NoRecord

abbrev quote_in : (item : Item) → QuoteFor item → Answer → QuoteFor item
quote_in item other (started answer) = other
quote_in item other (judged answer) = other
quote_in item other (took answer) = other
quote_in item other (listed answer cells) = other
quote_in item other (wrote_off answer) = other
quote_in Contract other (read Contract answer quote) = quote
quote_in Contract other (read Pair answer quote) = other
quote_in Pair other (read Contract answer quote) = other
quote_in Pair other (read Pair answer quote) = quote
quote_in item other (wrote answer out) = other

quote_in_lem : (item : Item) (other quote : QuoteFor item) (answer : Recorded) → quote_in item other (read item answer quote) ≡ quote
quote_in_lem Contract other quote answer = refl
quote_in_lem Pair other quote answer = refl

module _ (lent : Lent) where
  pub start_exactly : (lists : Lists) (starts : List ℕ) (answer : Result (Unit {0}) Refusal) (lent' : Lent)
      → StartedBox (with_lists lists lent) starts answer lent' ↔ (((step lent (start lists starts)).answer ≡ started answer) × (with_lists lists (step lent (start lists starts)).left ≡ lent'))
  start_exactly lists starts answer lent' =
      let o : Option Refusal = start_refusal lent lists starts in (
        (λ p. let one = one_started (start_answer o) answer (start_promised lent lists starts) p in (ap started one.0, one.1)),
        (λ w.
            let e = w.0 in
            let same : start_answer o ≡ answer = cc in
            both (StartedBox (with_lists lists lent) starts) (start_answer o) answer _ lent' same w.1 (start_promised lent lists starts)),
      )

  pub judge_exactly : (batch : List ℕ) (answer : Judged) → JudgedBatch lent batch answer ↔ (step lent (judge batch)).answer ≡ judged answer
  judge_exactly batch answer = (
    (λ p. ap judged (one_judged lent batch (batch_answer lent batch) answer (judge_promised lent batch) p)),
    (λ e. let same : batch_answer lent batch ≡ answer = cc in subst (JudgedBatch lent batch) same (judge_promised lent batch)),
  )

  pub take_exactly : (batch : List ℕ) (answer : Judged) (lent' : Lent)
      → TookBatch lent batch answer lent' ↔ (((step lent (take batch)).answer ≡ took answer) × ((step lent (take batch)).left ≡ lent'))
  take_exactly batch answer lent' = (
    (λ p. let one = one_took lent batch (batch_answer lent batch) answer _ lent' (take_promised lent batch) p in (ap took one.0, one.1)),
    (λ w.
        let e = w.0 in
        let same : batch_answer lent batch ≡ answer = cc in
        both (TookBatch lent batch) (batch_answer lent batch) answer _ lent' same w.1 (take_promised lent batch)),
  )

  pub list_exactly : (letter : ℕ) (cells : List ℕ) (answer : Listed) (cells' : List ℕ)
      → ListedRuns lent letter cells answer cells' ↔ (step lent (list_gaps letter cells)).answer ≡ listed answer cells'
  list_exactly letter cells answer cells' =
      let said : Listed = list_answer (list_refusal lent letter cells) (gaps_of_letter lent letter) in
      let put : List ℕ = left_by (list_refusal lent letter cells) cells (runs_put (gaps_of_letter lent letter) cells) in (
        (λ p. let one = one_listed said answer (list_promised lent letter cells) p in ap₂ listed one.0 one.1),
        (λ e.
            let same : said ≡ answer = cc in
            let left : put ≡ cells' = cc in
            both (ListedRuns lent letter cells) said answer put cells' same left (list_promised lent letter cells)),
      )

  pub off_exactly : (letter : ℕ) (answer : WrittenOff) (lent' : Lent)
      → WroteOffRun lent letter answer lent' ↔ (((step lent (write_off letter)).answer ≡ wrote_off answer) × ((step lent (write_off letter)).left ≡ lent'))
  off_exactly letter answer lent' = (
    (λ p. let one = one_written_off (off_answer lent letter) answer (off_promised lent letter) p in (ap wrote_off one.0, one.1)),
    (λ w.
        let e = w.0 in
        let same : off_answer lent letter ≡ answer = cc in
        both (WroteOffRun lent letter) (off_answer lent letter) answer _ lent' same w.1 (off_promised lent letter)),
  )

  pub read_exactly : (item : Item) (letter : ℕ) (key : List ℕ) (level : Level) (answer : Recorded) (quote : QuoteFor item)
      → ReadsItem item lent letter key level answer quote ↔ (step lent (read_record item letter key level)).answer ≡ read item answer quote
  read_exactly item letter key level answer quote = (
    (λ p. let one = one_read (read_answer item lent letter key level) answer (read_promised lent item letter key level) p in ap₂ (read item) one.0 one.1),
    (λ e.
        let same : read_answer item lent letter key level ≡ answer = ap answer_in e in
        let shows : read_quote item lent letter key level ≡ quote =
        sym (quote_in_lem item quote (read_quote item lent letter key level) (read_answer item lent letter key level)) ∙ ap (quote_in item quote) e ∙ quote_in_lem item quote quote answer in
        both (ReadsItem item lent letter key level) (read_answer item lent letter key level) answer (read_quote item lent letter key level) quote same shows (read_promised lent item letter key level)),
  )

  pub write_exactly : (item : Item) (code : Code) (level : Level) (number : ℕ) (key : List ℕ) (cells : Form → List ℕ) (out : List ℕ) (answer : Result ℕ Refusal) (out' : List ℕ)
      → WroteValues item code level number key cells out answer out' ↔ written item code level number key cells out ≡ wrote answer out'
  write_exactly item code level number key cells out answer out' =
      let said : Result ℕ Refusal = said_written item code level number key cells out in
      let put : List ℕ = write_leaves item code level number key cells out in (
        (λ p. let one = one_written item code level number key cells out said answer (write_promised item code level number key cells out) p in ap₂ wrote one.0 one.1),
        (λ e.
            let same : said ≡ answer = cc in
            let left : put ≡ out' = cc in
            both (WroteValues item code level number key cells out) said answer put out' same left (write_promised item code level number key cells out)),
      )

  pub no_spreads_exactly : (list out : List ℕ) (answer : Result ℕ Refusal) (out' : List ℕ)
      → PutNoSpreads list out answer out' ↔ (step lent (calls.no_spreads list out)).answer ≡ wrote answer out'
  no_spreads_exactly list out answer out' =
      let said : Result ℕ Refusal = said_none list out in
      let put : List ℕ = left_none list out in (
        (λ p. let one = one_no_spreads said answer (no_spreads_promised list out) p in ap₂ wrote one.0 one.1),
        (λ e.
            let same : said ≡ answer = cc in
            let left : put ≡ out' = cc in
            both (PutNoSpreads list out) said answer put out' same left (no_spreads_promised list out)),
      )
