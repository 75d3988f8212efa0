-- From the array of runs that a call looks at to the lent row: what is promised of the one is promised of the other.
use Rattle.std.specs.Prelude.{ℕ, min, ◌≤◌, ◌<◌, ◌≡◌, refl, true, false, List, [], ◌∷◌, ◌++◌, length, take, drop, Result}
use Rattle.std.proofs.Common.{ap, ap₂, sym, ◌∙◌, subst, ⊎_elim, append-nil, arith, length-take, take_all, take_at, length-take-le}
use Rattle.laws.specs.Choice.{either}
use Rattle.laws.specs.Lists.{take_min, drop_min}
use Rattle.laws.specs.Order.{order}
use Rattle.files.specs.File.{segments_of}
use Rattle.contracts.specs.HeaderLaws.{header_exact}
use Rattle.contracts.specs.Sound.{most_segments}
use Rattle.contracts.specs.SoundTests.{header_sound}
use Rattle.forms.specs.declared.rows.Level.{Level}
use Rattle.state.specs.declared.refusal.Refusal.{Refusal}
use Rattle.state.specs.declared.answers.Judged.{Judged}
use Rattle.state.specs.declared.answers.Recorded.{Recorded}
use Rattle.forms.specs.declared.forms.Form.{Form}
use Rattle.forms.specs.declared.forms.Item.{Item}
use Rattle.state.specs.declared.refusal.Refusal.TheVariants.{List as ListOf}
use Rattle.state.specs.Answers.{started_numbers, judged_numbers, listed_numbers, written_off_numbers, recorded_numbers, Listed, WrittenOff}
use Rattle.state.specs.Memory.{lends}
use Rattle.pairs.specs.Lists.{Lists}
use Rattle.starting.specs.StartPromises.{StartedBox}
use Rattle.listing.specs.ListPromises.{ListedRuns, WroteOffRun}
use Rattle.reading.specs.Reads.{ReadsFor}
use Rattle.batch.specs.Promises.{JudgedBatch, TookBatch}
use Rattle.state.specs.Refusals.{refusal_numbers}
use Rattle.copies.specs.declared.run.Run.{Run}
use Rattle.copies.specs.Rows.{flat, blanks, over, array, lent, most, most_runs}
use Rattle.runs.specs.Wanted.{in_runs}
use Rattle.copies.specs.RowsLaws.{over_is}
use Rattle.runs.specs.WantedLaws.{in_runs_enough, in_runs_other}
use Rattle.copies.specs.FlatLaws.{flat_append, flat_take, flat_drop}
use Rattle.runs.specs.FrontLaws.{whole}
use Rattle.runs.specs.WholeLaws.{started_unlisted, started_front, judged_unlisted, judged_front, took_front, listed_unlisted, listed_front, wrote_unlisted, wrote_front, read_unlisted, read_front}
use Rattle.runs.specs.Promises.{Over, StartedRuns, JudgedRuns, TookRuns, ListedGaps, WroteOffRuns, ReadsRuns}

module _ (rows : List Run) where
  lent_rows : lent rows (array rows) ≡ take most_runs rows
  lent_rows =
      ap (lent rows) (over_is rows blanks)
      ∙ ⊎_elim
      (λ (h : length rows ≤ most_runs).
      let n : min (length rows) most_runs ≡ length rows = omega arith in
      ap (λ (k : ℕ). lent rows (take k rows ++ drop k blanks)) n
      ∙ take_at (take (length rows) rows) (drop (length rows) blanks) (length rows) (length-take-le (length rows) rows (omega arith))
      ∙ take_all (length rows) rows (omega arith)
      ∙ sym (take_all most_runs rows h))
      (λ (h : most_runs < length rows).
      let n : min (length rows) most_runs ≡ most_runs = omega arith in
      ap (λ (k : ℕ). lent rows (take k rows ++ drop k blanks)) n
      ∙ ap (lent rows) (append-nil (take most_runs rows))
      ∙ take_all (length rows) (take most_runs rows) (simp length-take (omega arith)))
      (order (length rows) most_runs)

  lent_numbers : flat (lent rows (array rows)) ≡ take most (flat rows)
  lent_numbers = ap flat lent_rows ∙ flat_take most_runs rows

  left_numbers : (runs : List Run) → length runs ≡ most_runs → flat (over runs rows) ≡ flat (lent rows runs) ++ drop most (flat rows)
  left_numbers runs long =
      let n : min (length runs) (length rows) ≡ min (length rows) (length runs) = omega arith in
      let m : min (length runs) (length rows) ≡ min most_runs (length rows) = omega (arith, long) in
      ap flat
      (over_is runs rows
      ∙ ap₂ (λ (k l : ℕ). take k runs ++ drop l rows) n m
      ∙ ap₂ ◌++◌ (take_min (length rows) runs) (drop_min most_runs rows))
      ∙ flat_append (lent rows runs) (drop most_runs rows)
      ∙ ap (λ (l : List ℕ). flat (lent rows runs) ++ l) (flat_drop most_runs rows)

  -- what holds of the numbers lent, whatever stands behind them, holds of the whole row
  pub lent_whole : (P : List ℕ → List ℕ → Type 0) → ((a z a' : List ℕ) → most ≤ length a → P a a' → P (a ++ z) (a' ++ z))
      → (runs : List Run) → length runs ≡ most_runs → P (flat (lent rows (array rows))) (flat (lent rows runs)) → P (flat rows) (flat (over runs rows))
  lent_whole P more runs long p =
      subst (P (flat rows)) (sym (left_numbers runs long))
      (whole P more (flat rows) (flat (lent rows runs)) (subst (λ (l : List ℕ). P l (flat (lent rows runs))) lent_numbers p))

  -- 15 for gap rows names as many runs
  pub lent_told : (lists : Lists) (numbers behind : List ℕ) → (header_sound lists.contracts ≡ false → numbers ≡ refusal_numbers ListOf ++ behind) → in_runs lists.contracts (length (lent rows (array rows))) numbers ≡ in_runs lists.contracts (length rows) numbers
  lent_told lists numbers behind unlisted =
      ⊎_elim
      (λ (h : length rows ≤ most_runs). ap (λ (n : ℕ). in_runs lists.contracts n numbers) (ap length lent_rows ∙ ap length (take_all most_runs rows h)))
      (λ (h : most_runs < length rows).
      ⊎_elim
      (λ (g : header_sound lists.contracts ≡ true).
      let few : segments_of lists.contracts ≤ most_segments = ((header_exact lists.contracts).0 g).few_segments in
      let long : length (lent rows (array rows)) ≡ most_runs = ap length lent_rows ∙ length-take-le most_runs rows (omega arith) in
      in_runs_enough lists.contracts (length (lent rows (array rows))) numbers (omega (arith, long, few)) ∙ sym (in_runs_enough lists.contracts (length rows) numbers (omega (arith, few))))
      (λ (g : header_sound lists.contracts ≡ false).
      let other : (n : ℕ) → in_runs lists.contracts n numbers ≡ numbers =
      λ n. ap (in_runs lists.contracts n) (unlisted g) ∙ in_runs_other lists.contracts n (refusal_numbers ListOf ++ behind) refl ∙ sym (unlisted g) in
      other (length (lent rows (array rows))) ∙ sym (other (length rows)))
      (either (header_sound lists.contracts)))
      (order (length rows) most_runs)

-- the numbers lent are looked at and no more
module _ (rows : List Run) where
  pub lent_seen : (P : List ℕ → Type 0) → ((a z : List ℕ) → most ≤ length a → P a → P (a ++ z)) → P (flat (lent rows (array rows))) → P (flat rows)
  lent_seen P more p = lent_whole rows (λ a b. P a) (λ a z b room q. more a z room q) blanks refl p

-- ---- each call

module _ (lists : Lists) (rows : List Run) where
  abbrev front : List Run
  front = lent rows (array rows)

  -- a promise that looks at the numbers lent and no further, by an answer that without a list is 16, with so much behind it
  lent_over : {A : Type 0} (numbers_of : A → List ℕ) (behind : List ℕ) (promise : List ℕ → List ℕ → A → Type 0) → ((a z a' : List ℕ) (core : A) → most ≤ length a → promise a a' core → promise (a ++ z) (a' ++ z) core)
      → ((a a' : List ℕ) (core : A) → header_sound lists.contracts ≡ false → promise a a' core → numbers_of core ≡ refusal_numbers ListOf ++ behind)
      → (runs : List Run) → length runs ≡ most_runs → (answer : A) → Over numbers_of lists.contracts front (lent rows runs) promise answer → Over numbers_of lists.contracts rows (over runs rows) promise answer
  lent_over numbers_of behind promise more unlisted runs long answer p = record {
    core = p.core;
    promised = lent_whole rows (λ a b. promise a b p.core) (λ a z a' room q. more a z a' p.core room q) runs long p.promised;
    answers = p.answers ∙ lent_told rows lists (numbers_of p.core) behind (λ h. unlisted (flat front) (flat (lent rows runs)) p.core h p.promised);
  }

  -- and that says nothing of numbers left
  seen_over : {A : Type 0} (numbers_of : A → List ℕ) (behind : List ℕ) (promise : List ℕ → A → Type 0) → ((a z : List ℕ) (core : A) → most ≤ length a → promise a core → promise (a ++ z) core)
      → ((a : List ℕ) (core : A) → header_sound lists.contracts ≡ false → promise a core → numbers_of core ≡ refusal_numbers ListOf ++ behind)
      → (answer : A) → Over numbers_of lists.contracts front front (λ a b core. promise a core) answer → Over numbers_of lists.contracts rows rows (λ a b core. promise a core) answer
  seen_over numbers_of behind promise more unlisted answer p = record {
    core = p.core;
    promised = lent_seen rows (λ a. promise a p.core) (λ a z room q. more a z p.core room q) p.promised;
    answers = p.answers ∙ lent_told rows lists (numbers_of p.core) behind (λ h. unlisted (flat front) p.core h p.promised);
  }

  module _ (records : List ℕ) where
    pub started_runs : (starts : List ℕ) (answer : Result (Unit {0}) Refusal) (runs : List Run) (records' : List ℕ) → length runs ≡ most_runs
        → StartedRuns lists starts front records answer (lent rows runs) records' → StartedRuns lists starts rows records answer (over runs rows) records'
    started_runs starts answer runs records' long =
        lent_over started_numbers [] (λ ns ns' core. StartedBox (lends lists ns records) starts core (lends lists ns' records')) (λ a z a' core room q. started_front (lends lists a records) z room starts core q)
        (λ a a' core h q. started_unlisted (lends lists a records) h starts core q) runs long answer

    pub judged_runs : (batch : List ℕ) (answer : Judged) → JudgedRuns lists front records batch answer → JudgedRuns lists rows records batch answer
    judged_runs batch answer =
        seen_over judged_numbers (0 ∷ []) (λ ns core. JudgedBatch (lends lists ns records) batch core) (λ a z core room q. judged_front (lends lists a records) z room batch core q)
        (λ a core h q. judged_unlisted (lends lists a records) h batch core q) answer

    pub took_runs : (batch : List ℕ) (answer : Judged) (runs : List Run) (records' : List ℕ) → length runs ≡ most_runs
        → TookRuns lists front records batch answer (lent rows runs) records' → TookRuns lists rows records batch answer (over runs rows) records'
    took_runs batch answer runs records' long =
        lent_over judged_numbers (0 ∷ []) (λ ns ns' core. TookBatch (lends lists ns records) batch core (lends lists ns' records')) (λ a z a' core room q. took_front (lends lists a records) z room batch core q)
        (λ a a' core h q. judged_unlisted (lends lists a records) h batch core (record { answers = q.answers })) runs long answer

    module _ (letter : ℕ) where
      pub listed_gaps : (cells : List ℕ) (answer : Listed) (cells' : List ℕ) → ListedGaps lists front records letter cells answer cells' → ListedGaps lists rows records letter cells answer cells'
      listed_gaps cells answer cells' =
          seen_over listed_numbers [] (λ ns core. ListedRuns (lends lists ns records) letter cells core cells') (λ a z core room q. listed_front (lends lists a records) z room letter core q)
          (λ a core h q. listed_unlisted (lends lists a records) h letter core q) answer

      pub wrote_off_runs : (answer : WrittenOff) (runs : List Run) → length runs ≡ most_runs → WroteOffRuns lists front records letter answer (lent rows runs) → WroteOffRuns lists rows records letter answer (over runs rows)
      wrote_off_runs answer runs long =
          lent_over written_off_numbers [] (λ ns ns' core. WroteOffRun (lends lists ns records) letter core (lends lists ns' records)) (λ a z a' core room q. wrote_front (lends lists a records) z room letter core q)
          (λ a a' core h q. wrote_unlisted (lends lists a records) h letter core q) runs long answer

      pub read_runs : {A : Type 0} {show : Form → List ℕ → A} {blank quote : A} {item : Item} (key : List ℕ) (level : Level) (answer : Recorded)
          → ReadsRuns show blank item lists front records letter key level answer quote → ReadsRuns show blank item lists rows records letter key level answer quote
      read_runs {show = show} {blank} {quote} {item} key level answer =
          seen_over recorded_numbers [] (λ ns core. ReadsFor show blank item (lends lists ns records) letter key level core quote)
          (λ a z core room q. read_front (lends lists a records) z room letter core q) (λ a core h q. read_unlisted (lends lists a records) h letter core q) answer
