-- The promises of the calls over numbers, from the front of the gap rows to all of them: what stands behind the first `most` numbers
-- is neither looked at nor changed.
use Prim.Native.Nat.{ℕ, ◌≤◌}
use Rattle.std.specs.Prelude.{◌≡◌, refl, true, false, length, drop, Result}
use Rattle.std.proofs.Math.Path.{ap, ap₂, sym}
use Rattle.std.proofs.Common.{◌∙◌, true≢false}
use mathlib.Core.List.{List, [], ◌∷◌, ◌++◌, append_assoc}
use Rattle.std.proofs.Math.Dec.{leb, ltb}
use Rattle.std.proofs.Math.Logic.{⊎_elim}
use Rattle.std.proofs.Math.Option.{Option, none, some}
use Rattle.std.proofs.lemmas.List.{drop-append-le}
use Rattle.laws.specs.Choice.{either}
use Rattle.laws.specs.Rules.{first_broken}
use Rattle.files.specs.Habits.{contracts}
use Rattle.lookup.specs.Lookup.{segment_of}
use Rattle.contracts.specs.HeaderLaws.{header_exact}
use Rattle.files.specs.File.{segments_of}
use Rattle.contracts.specs.Sound.{Header}
use Rattle.contracts.specs.SoundTests.{header_sound, sound}
use Rattle.contracts.specs.SoundLaws.{sound_header}
use Rattle.forms.specs.declared.rows.Level.{Level}
use Rattle.sequence.specs.Gaps.{Gaps, wanted}
use Rattle.sequence.specs.Changes.{wrote_off}
use Rattle.sequence.specs.RowLaid.{laid}
use Rattle.head.specs.Tests.{is_some}
use Rattle.message.specs.Message.{key_place}
use Rattle.state.specs.declared.answers.Judged.{Judged}
use Rattle.state.specs.declared.answers.Recorded.{Recorded}
use Rattle.forms.specs.declared.forms.Form.{Form}
use Rattle.forms.specs.declared.forms.Item.{Item}
use Rattle.pairs.specs.Lists.{Lists}
use Rattle.state.specs.declared.refusal.Refusal.{Refusal}
use Rattle.state.specs.declared.refusal.Refusal.TheVariants.{Code, Contract, Memory, NoGap, List as ListOf}
use Rattle.state.specs.Answers.{started_numbers, judged_numbers, listed_numbers, written_off_numbers, recorded_numbers, answered, left_by, Listed, WrittenOff}
use Rattle.turns.specs.Compared.{counted_numbers}
use Rattle.turns.specs.Turns.{Acted, acted, refused, messages_act}
use Rattle.batch.specs.Batch.{batch_rules, batch_letter, count_of, batch_data}
use Rattle.batch.specs.Acts.{unless_broken, batch_acts, batch_compared, batch_numbers, lent_after}
use Rattle.batch.specs.BatchLaws.{rule_refuses, front_numbers}
use Rattle.state.specs.Memory.{Lent, lends, gap_row_of_letter, gap_rows_wanted}
use Rattle.state.specs.MemoryRows.{with_gap_row_of_letter}
use Rattle.listing.specs.ListActs.{list_values, runs_put, run_values, lowest_run, lent_written_off}
use Rattle.listing.specs.ListRules.{gaps_of_letter, list_rules, write_off_rules}
use Rattle.reading.specs.ReadRules.{record_rules}
use Rattle.starting.specs.StartPromises.{StartedBox}
use Rattle.listing.specs.ListPromises.{ListedRuns, WroteOffRun}
use Rattle.reading.specs.Reads.{ReadsFor}
use Rattle.reading.specs.Record.{record_of_key, record_number, record_session, record_values, stamp_shown, quote_at, quote_beside}
use Rattle.batch.specs.Promises.{JudgedBatch, TookBatch}
use Rattle.starting.specs.Start.{start_rules}
use Rattle.starting.specs.StartActs.{start_broken, started_rows, rows_started, records_cleared, lent_started}
use Rattle.state.specs.State.{state_rules, segment_rules}
use Rattle.state.specs.Refusals.{Rule, refusal_numbers}
use Rattle.copies.specs.Rows.{most}
use Rattle.runs.specs.FrontLaws.{longer, rows_within, rows_lent, state_front, letter_front, with_front}

told_as : (o : Option Refusal) (values : List ℕ) → o ≡ some ListOf → answered o values ≡ refusal_numbers ListOf
told_as o values e = rw e

left_as : {A : Type 0} (o : Option Refusal) (before after : A) → o ≡ some ListOf → left_by o before after ≡ before
left_as o before after e = rw e

left_longer : (z : List ℕ) (o : Option Refusal) (before after more : Lent) → more ≡ longer z after → left_by o (longer z before) more ≡ longer z (left_by o before after)
left_longer z (some refusal) before after more e = refl
left_longer z none before after more e = e

-- by whether a list's header is sound
heads : {A : Type 0} (list : List ℕ) → (header_sound list ≡ false → A) → (Header list → A) → A
heads {A} list bad good =
    ⊎_elim (λ (h : header_sound list ≡ true). good ((header_exact list).0 h)) (λ (h : header_sound list ≡ false). bad h) (either (header_sound list))

-- ---- where it isn't, every call answers 16, whatever rule stands behind

module _ (lent : Lent) (h : header_sound lent.lists.contracts ≡ false) where
  batch_unlisted : (batch : List ℕ) → first_broken (state_rules lent ++ batch_rules batch) ≡ some ListOf
  batch_unlisted batch = rw h

  acts_unlisted : (batch : List ℕ) → batch_acts lent batch ≡ refused ListOf
  acts_unlisted batch = rule_refuses lent batch ListOf (batch_unlisted batch)

  pub judged_unlisted : (batch : List ℕ) (answer : Judged) → JudgedBatch lent batch answer → judged_numbers answer ≡ refusal_numbers ListOf ++ (0 ∷ [])
  judged_unlisted batch answer p = p.answers ∙ front_numbers lent batch ListOf (batch_unlisted batch)

  start_unlisted : (starts : List ℕ) → start_broken lent starts ≡ some ListOf
  unfolding start_rules
  start_unlisted starts =
      ⊎_elim (λ (s : sound lent.lists.contracts ≡ true). absurd (true≢false (sym (sound_header contracts lent.lists.contracts s) ∙ h))) (λ (s : sound lent.lists.contracts ≡ false). rw s) (either (sound lent.lists.contracts))

  pub started_unlisted : (starts : List ℕ) {lent' : Lent} (answer : Result (Unit {0}) Refusal) → StartedBox lent starts answer lent' → started_numbers answer ≡ refusal_numbers ListOf
  started_unlisted starts answer p = p.answers ∙ told_as _ [] (start_unlisted starts)

  module _ (letter : ℕ) where
    rules_unlisted : (more : List Rule) → first_broken (segment_rules lent letter ++ more) ≡ some ListOf
    unfolding segment_rules
    rules_unlisted more = rw h

    list_unlisted : (cells : ℕ) → first_broken (list_rules lent letter cells) ≡ some ListOf
    unfolding list_rules
    list_unlisted cells = rules_unlisted (record { holds = leb (wanted (gaps_of_letter lent letter).runs) cells; refusal = Memory (wanted (gaps_of_letter lent letter).runs) } ∷ [])

    off_unlisted : first_broken (write_off_rules lent letter) ≡ some ListOf
    unfolding write_off_rules
    off_unlisted = rules_unlisted (record { holds = ltb 0 (length (gaps_of_letter lent letter).runs); refusal = NoGap } ∷ [])

    record_unlisted : (item : Item) (key : List ℕ) → first_broken (record_rules item lent letter key) ≡ some ListOf
    unfolding record_rules
    record_unlisted item key = rules_unlisted (record { holds = is_some (key_place item lent.lists letter key); refusal = Contract 0 } ∷ [])

    pub listed_unlisted : {cells cells' : List ℕ} (answer : Listed) → ListedRuns lent letter cells answer cells' → listed_numbers answer ≡ refusal_numbers ListOf
    listed_unlisted {cells} answer p = p.answers ∙ told_as _ _ (list_unlisted (length cells))

    pub wrote_unlisted : {lent' : Lent} (answer : WrittenOff) → WroteOffRun lent letter answer lent' → written_off_numbers answer ≡ refusal_numbers ListOf
    wrote_unlisted answer p = p.answers ∙ told_as _ _ off_unlisted

    pub read_unlisted : {A : Type 0} {show : Form → List ℕ → A} {blank quote : A} {item : Item} {key : List ℕ} {level : Level} (answer : Recorded)
        → ReadsFor show blank item lent letter key level answer quote → recorded_numbers answer ≡ refusal_numbers ListOf
    read_unlisted {item = item} {key} answer p = p.answers ∙ told_as _ _ (record_unlisted item key)

-- ---- what stands behind the front is neither looked at nor changed

module _ (lent : Lent) (z : List ℕ) (room : most ≤ length lent.rows) where
  abbrev lists : Lists
  lists = lent.lists

  abbrev all : Lent
  all = longer z lent

  -- a batch

  module _ (batch : List ℕ) where
    acts_front : batch_acts all batch ≡ batch_acts lent batch
    unfolding batch_acts
    acts_front =
        heads lists.contracts (λ h. acts_unlisted all h batch ∙ sym (acts_unlisted lent h batch))
        (λ header. ap₂ from (state_front lent z room header) (letter_front lent z room header (batch_letter batch)))
      where
        from : List Rule → List ℕ → Acted
        from rules row =
            unless_broken (first_broken (rules ++ batch_rules batch))
            (messages_act (count_of batch) lists (batch_letter batch) 0 (record { row = row; records = lent.records; taken = 0; old = 0; heartbeats = 0 }) (batch_data batch))

    acted_left : lent_after all (batch_letter batch) (batch_acts lent batch) ≡ longer z (lent_after lent (batch_letter batch) (batch_acts lent batch))
    acted_left = heads lists.contracts (λ h. rw (acts_unlisted lent h batch)) (λ header. go header (batch_acts lent batch))
      where
        go : Header lists.contracts → (acts : Acted) → lent_after all (batch_letter batch) acts ≡ longer z (lent_after lent (batch_letter batch) acts)
        go header (acted box) = ap (λ (rows : List ℕ). lends lists rows box.records) (with_front lent z room header (batch_letter batch) box.row)
        go header (refused refusal) = refl

    numbers_front : batch_numbers lent batch ≡ batch_numbers all batch
    numbers_front = ap (λ (acts : Acted). counted_numbers acts (batch_compared lists batch acts)) (sym acts_front)

    pub judged_front : (answer : Judged) → JudgedBatch lent batch answer → JudgedBatch all batch answer
    judged_front answer p = record { answers = p.answers ∙ numbers_front }

    pub took_front : {lent' : Lent} (answer : Judged) → TookBatch lent batch answer lent' → TookBatch all batch answer (longer z lent')
    took_front answer p = record {
      answers = p.answers ∙ numbers_front;
      left = ap (longer z) p.left ∙ sym acted_left ∙ ap (lent_after all (batch_letter batch)) (sym acts_front);
    }

  -- a start

  module _ (starts : List ℕ) where
    broken_front : start_broken all starts ≡ start_broken lent starts
    unfolding start_rules
    broken_front = heads lists.contracts (λ h. start_unlisted all h starts ∙ sym (start_unlisted lent h starts)) (λ header. rw (rows_lent lent z room header))

    rows_left : Header lists.contracts → lent_started all starts ≡ longer z (lent_started lent starts)
    unfolding rows_started
    rows_left header =
        ap (λ (rows : List ℕ). lends lists rows (records_cleared lists lent.records))
        (ap (λ (l : List ℕ). started_rows (segments_of lists.contracts) starts ++ l) (drop-append-le (gap_rows_wanted lists) lent.rows z (rows_within lent z room header))
        ∙ sym (append_assoc (started_rows (segments_of lists.contracts) starts) (drop (gap_rows_wanted lists) lent.rows) z))

    started_left : left_by (start_broken lent starts) all (lent_started all starts) ≡ longer z (left_by (start_broken lent starts) lent (lent_started lent starts))
    started_left =
        heads lists.contracts (λ h. rw (start_unlisted lent h starts))
        (λ header. left_longer z (start_broken lent starts) lent (lent_started lent starts) (lent_started all starts) (rows_left header))

    pub started_front : {lent' : Lent} (answer : Result (Unit {0}) Refusal) → StartedBox lent starts answer lent' → StartedBox all starts answer (longer z lent')
    started_front answer p = record {
      answers = p.answers ∙ ap (λ (o : Option Refusal). answered o []) (sym broken_front);
      left = ap (longer z) p.left ∙ sym started_left ∙ ap (λ (o : Option Refusal). left_by o all (lent_started all starts)) (sym broken_front);
    }

  -- the calls for a segment

  module _ (letter : ℕ) where
    rules_front : Header lists.contracts → segment_rules all letter ≡ segment_rules lent letter
    unfolding segment_rules
    rules_front header = ap (λ (rules : List Rule). rules ++ (record { holds = is_some (segment_of lists.contracts letter); refusal = Code 0 } ∷ [])) (state_front lent z room header)

    gaps_front : Header lists.contracts → gaps_of_letter all letter ≡ gaps_of_letter lent letter
    unfolding gaps_of_letter
    gaps_front header = rw (letter_front lent z room header letter)

    list_front : Header lists.contracts → (cells : ℕ) → list_rules all letter cells ≡ list_rules lent letter cells
    unfolding list_rules
    list_front header cells =
        ap₂ (λ (rules : List Rule) (gaps : Gaps). rules ++ (record { holds = leb (wanted gaps.runs) cells; refusal = Memory (wanted gaps.runs) } ∷ []))
        (rules_front header) (gaps_front header)

    off_front : Header lists.contracts → write_off_rules all letter ≡ write_off_rules lent letter
    unfolding write_off_rules
    off_front header = ap₂ (λ (rules : List Rule) (gaps : Gaps). rules ++ (record { holds = ltb 0 (length gaps.runs); refusal = NoGap } ∷ [])) (rules_front header) (gaps_front header)

    record_front : Header lists.contracts → (item : Item) (key : List ℕ) → record_rules item all letter key ≡ record_rules item lent letter key
    unfolding record_rules
    record_front header item key = ap (λ (rules : List Rule). rules ++ (record { holds = is_some (key_place item lists letter key); refusal = Contract 0 } ∷ [])) (rules_front header)

    pub listed_front : {cells cells' : List ℕ} (answer : Listed) → ListedRuns lent letter cells answer cells' → ListedRuns all letter cells answer cells'
    listed_front {cells} answer p =
        heads lists.contracts
        (λ h. record {
          answers = listed_unlisted lent h letter answer p ∙ sym (told_as _ _ (list_unlisted all h letter (length cells)));
          cells_left = p.cells_left ∙ left_as _ cells _ (list_unlisted lent h letter (length cells)) ∙ sym (left_as _ cells _ (list_unlisted all h letter (length cells)));
        })
        (λ header. record {
          answers = p.answers ∙ ap₂ (λ (rules : List Rule) (gaps : Gaps). answered (first_broken rules) (list_values gaps)) (sym (list_front header (length cells))) (sym (gaps_front header));
          cells_left = p.cells_left ∙ ap₂ (λ (rules : List Rule) (gaps : Gaps). left_by (first_broken rules) cells (runs_put gaps cells)) (sym (list_front header (length cells))) (sym (gaps_front header));
        })

    pub read_front : {A : Type 0} {show : Form → List ℕ → A} {blank quote : A} {item : Item} {key : List ℕ} {level : Level} (answer : Recorded)
        → ReadsFor show blank item lent letter key level answer quote → ReadsFor show blank item all letter key level answer quote
    read_front {show = show} {blank} {item = item} {key} {level} answer p =
        let same : first_broken (record_rules item lent letter key) ≡ first_broken (record_rules item all letter key) =
        heads lists.contracts (λ h. record_unlisted lent h letter item key ∙ sym (record_unlisted all h letter item key)) (λ header. ap first_broken (sym (record_front header item key))) in
        let at : ℕ = record_of_key item lists letter key level in
        record {
          answers = p.answers ∙ ap (λ (o : Option Refusal). answered o (record_values (record_number lent.records at) (record_session item lent.records at))) same;
          quotes = p.quotes ∙ ap (λ (o : Option Refusal). quote_beside blank o (quote_at show blank item (stamp_shown item letter) lent.records at level)) same;
        }

    off_left : Header lists.contracts → lent_written_off all letter ≡ longer z (lent_written_off lent letter)
    unfolding lent_written_off
    off_left header =
        ap (λ (rows : List ℕ). lends lists rows lent.records)
        (ap₂ (λ (row : List ℕ) (gaps : Gaps). with_gap_row_of_letter lists letter (lent.rows ++ z) (laid row (wrote_off gaps))) (letter_front lent z room header letter) (gaps_front header)
        ∙ with_front lent z room header letter (laid (gap_row_of_letter lists letter lent.rows) (wrote_off (gaps_of_letter lent letter))))

    pub wrote_front : {lent' : Lent} (answer : WrittenOff) → WroteOffRun lent letter answer lent' → WroteOffRun all letter answer (longer z lent')
    wrote_front answer p =
        heads lists.contracts
        (λ h. record {
          answers = wrote_unlisted lent h letter answer p ∙ sym (told_as _ _ (off_unlisted all h letter));
          left = ap (longer z) (p.left ∙ left_as _ lent _ (off_unlisted lent h letter)) ∙ sym (left_as _ all _ (off_unlisted all h letter));
        })
        (λ header. record {
          answers = p.answers ∙ ap₂ (λ (rules : List Rule) (gaps : Gaps). answered (first_broken rules) (run_values (lowest_run gaps))) (sym (off_front header)) (sym (gaps_front header));
          left = ap (longer z) p.left ∙ sym (left_longer z (first_broken (write_off_rules lent letter)) lent (lent_written_off lent letter) (lent_written_off all letter) (off_left header))
              ∙ ap (λ (rules : List Rule). left_by (first_broken rules) all (lent_written_off all letter)) (sym (off_front header));
        })
