-- What each function promises a host is what the step says, and nothing else.
use Rattle.std.specs.Prelude.{ℕ, ◌≡◌, refl, List, [], ◌↔◌, length, Result}
use Rattle.std.proofs.Common.{sym, ap, ap₂, ◌∙◌}
use Rattle.pairs.specs.Lists.{Lists}
use Rattle.pairs.specs.NoSpreads as none
use Rattle.forms.specs.declared.forms.Item.{Item}
use Rattle.forms.specs.declared.forms.Item.TheVariants.{Contract, Pair}
use Rattle.forms.specs.declared.rows.Level.{Level}
use Rattle.state.specs.Answers.{Listed}
use Rattle.state.specs.declared.refusal.Refusal.{Refusal}
use Rattle.state.specs.Memory.{Lent}
use Rattle.listing.specs.ListRules.{gaps_of_letter}
use Rattle.writer.specs.Writer.{length_written}
use Rattle.writer.specs.Chosen.{form_written}
use Rattle.history.specs.Calls as calls
use Rattle.history.specs.Calls.{Answer, with_lists}
use Rattle.history.specs.Step.{Outcome, step, start_refusal, start_answer, batch_answer, list_refusal, list_answer, off_answer, read_answer, read_quote, write_refusal, write_answer, written, no_spreads_refusal}
use Rattle.history.proofs.CallsLaws as exactly
use Rattle.host.specs.Promises.{HostStarted, HostJudged, HostTook, HostListed, HostWroteOff, HostPutNoSpreads, code_of}
use Rattle.told.specs.Told.{Tells}
use Rattle.hosted.specs.HostItems.{laid_from, HostReadItem, HostWroteItem}
use Rattle.hosted.specs.HostCalls.{HostCall, HostOutcome, start, judge, take, list_gaps, write_off, read, write, no_spreads, call_of, numbers_told, beside_of, told_by, host_step}

-- what is returned, answered and left, as one
abbrev pub gives : ℕ → List ℕ → List ℕ → Lent → HostOutcome
gives returned answer beside left = record { returned = returned; answer = answer; beside = beside; left = left }

-- the lists that a start is handed stand with what it leaves
abbrev pub in_lists : Lists → HostOutcome → HostOutcome
in_lists lists outcome = gives outcome.returned outcome.answer outcome.beside (with_lists lists outcome.left)

-- an answer that is told is what is returned and what `answer` holds
told_is : (call : HostCall) (a : Answer) (left : Lent) {returned : ℕ} {answer' : List ℕ} → Tells (numbers_told a) returned answer'
    → told_by call (record { answer = a; left = left }) ≡ gives returned answer' (beside_of call a) left
told_is call a left t = λ k. gives (sym t.number k) (sym t.values k) (beside_of call a) left

module _ (lent : Lent) where
  -- of the call's answer and of what it leaves
  step_is : (call : HostCall) {a : Answer} {left : Lent} {returned : ℕ} {answer' : List ℕ} → (step lent (call_of call)).answer ≡ a
      → (step lent (call_of call)).left ≡ left → Tells (numbers_told a) returned answer' → host_step lent call ≡ gives returned answer' (beside_of call a) left
  step_is call {a} {left} e l t = ap₂ (λ (x : Answer) (y : Lent). told_by call (record { answer = x; left = y })) e l ∙ told_is call a left t

  -- and back
  tells_is : (call : HostCall) {returned : ℕ} {answer' beside : List ℕ} {left : Lent} → host_step lent call ≡ gives returned answer' beside left
      → Tells (numbers_told (step lent (call_of call)).answer) returned answer'
  tells_is call e = record { number = sym (ap (λ (o : HostOutcome). o.returned) e); values = sym (ap (λ (o : HostOutcome). o.answer) e) }

  -- ---- each function

  -- a start is handed lists of its own
  pub start_says : (lists : Lists) (starts : List ℕ) (returned : ℕ) (lent' : Lent) (answer' : List ℕ)
      → HostStarted (with_lists lists lent) starts returned lent' answer'
      ↔ in_lists lists (host_step lent (start lists starts)) ≡ gives returned answer' [] lent'
  start_says lists starts returned lent' answer' = (
    (λ p.
        let w = (exactly.start_exactly lent lists starts p.started lent').0 p.promised in
        ap (in_lists lists) (step_is (start lists starts) w.0 refl p.tells) ∙ ap (gives returned answer' []) w.1),
    (λ e.
        record {
          started = start_answer (start_refusal lent lists starts);
          promised = (exactly.start_exactly lent lists starts (start_answer (start_refusal lent lists starts)) lent').1 (refl, ap (λ (o : HostOutcome). o.left) e);
          tells = record { number = sym (ap (λ (o : HostOutcome). o.returned) e); values = sym (ap (λ (o : HostOutcome). o.answer) e) };
        }),
  )

  pub judge_says : (batch : List ℕ) (returned : ℕ) (answer' : List ℕ)
      → HostJudged lent batch returned answer' ↔ host_step lent (judge batch) ≡ gives returned answer' [] lent
  judge_says batch returned answer' = (
    (λ p. step_is (judge batch) ((exactly.judge_exactly lent batch p.judged).0 p.promised) refl p.tells),
    (λ e. record { judged = batch_answer lent batch; promised = (exactly.judge_exactly lent batch (batch_answer lent batch)).1 refl; tells = tells_is (judge batch) e }),
  )

  pub take_says : (batch : List ℕ) (returned : ℕ) (lent' : Lent) (answer' : List ℕ)
      → HostTook lent batch returned lent' answer' ↔ host_step lent (take batch) ≡ gives returned answer' [] lent'
  take_says batch returned lent' answer' = (
    (λ p. let w = (exactly.take_exactly lent batch p.judged lent').0 p.promised in step_is (take batch) w.0 w.1 p.tells),
    (λ e.
        record {
          judged = batch_answer lent batch;
          promised = (exactly.take_exactly lent batch (batch_answer lent batch) lent').1 (refl, ap (λ (o : HostOutcome). o.left) e);
          tells = tells_is (take batch) e;
        }),
  )

  pub list_says : (letter : ℕ) (cells : List ℕ) (returned : ℕ) (cells' answer' : List ℕ)
      → HostListed lent letter cells returned cells' answer' ↔ host_step lent (list_gaps letter cells) ≡ gives returned answer' cells' lent
  list_says letter cells returned cells' answer' =
      let said : Listed = list_answer (list_refusal lent letter cells) (gaps_of_letter lent letter) in (
        (λ p. step_is (list_gaps letter cells) ((exactly.list_exactly lent letter cells p.listed cells').0 p.promised) refl p.tells),
        (λ e.
            record {
              listed = said;
              promised = (exactly.list_exactly lent letter cells said cells').1 (ap (λ (o : HostOutcome). calls.listed said o.beside) e);
              tells = tells_is (list_gaps letter cells) e;
            }),
      )

  pub off_says : (letter returned : ℕ) (lent' : Lent) (answer' : List ℕ)
      → HostWroteOff lent letter returned lent' answer' ↔ host_step lent (write_off letter) ≡ gives returned answer' [] lent'
  off_says letter returned lent' answer' = (
    (λ p. let w = (exactly.off_exactly lent letter p.written_off_lem lent').0 p.promised in step_is (write_off letter) w.0 w.1 p.tells),
    (λ e.
        record {
          written_off_lem = off_answer lent letter;
          promised = (exactly.off_exactly lent letter (off_answer lent letter) lent').1 (refl, ap (λ (o : HostOutcome). o.left) e);
          tells = tells_is (write_off letter) e;
        }),
  )

  pub read_says : (item : Item) (level : Level) (letter : ℕ) (key values : List ℕ) (returned : ℕ) (values' answer' : List ℕ)
      → HostReadItem item lent letter key level values returned values' answer'
      ↔ host_step lent (read item level letter key values) ≡ gives returned answer' values' lent
  read_says item level letter key values returned values' answer' = (
    (λ p.
        step_is (read item level letter key values) ((exactly.read_exactly lent item letter key level p.recorded p.quote).0 p.promised) refl p.tells
        ∙ ap (λ (vs : List ℕ). gives returned answer' vs lent) (sym p.shows)),
    (λ e.
        record {
          recorded = read_answer item lent letter key level;
          quote = read_quote item lent letter key level;
          promised = (exactly.read_exactly lent item letter key level (read_answer item lent letter key level) (read_quote item lent letter key level)).1 refl;
          tells = tells_is (read item level letter key values) e;
          shows = sym (ap (λ (o : HostOutcome). o.beside) e);
        }),
  )

  -- the writer is handed no memory of the box
  write_steps : (item : Item) (level : Level) (code : List ℕ) (number : ℕ) (key values out : List ℕ)
      → step lent (call_of (write item level code number key values out)) ≡ record { answer = written item (code_of code) level number key (laid_from item level values) out; left = lent }
  write_steps Contract level code number key values out = refl
  write_steps Pair level code number key values out = refl

  pub write_says : (item : Item) (level : Level) (code : List ℕ) (number : ℕ) (key values out : List ℕ) (returned : ℕ) (out' answer' : List ℕ)
      → HostWroteItem item code level number key values out returned out' answer'
      ↔ host_step lent (write item level code number key values out) ≡ gives returned answer' out' lent
  write_says item level code number key values out returned out' answer' =
      let said : Result ℕ Refusal =
      write_answer (write_refusal item (code_of code) level number key (laid_from item level values) out) (length_written (form_written item (code_of code) level)) in
      let call : HostCall = write item level code number key values out in
      let does = write_steps item level code number key values out in (
        (λ p.
            step_is call
            (ap (λ (o : Outcome). o.answer) does ∙ (exactly.write_exactly lent item (code_of code) level number key (laid_from item level values) out p.written out').0 p.promised)
            (ap (λ (o : Outcome). o.left) does) p.tells),
        (λ e.
            let told = sym (ap (told_by call) does) ∙ e in
            record {
              written = said;
              promised =
                  (exactly.write_exactly lent item (code_of code) level number key (laid_from item level values) out said out').1
                  (ap (λ (o : HostOutcome). calls.wrote said o.beside) told);
              tells = record { number = sym (ap (λ (o : HostOutcome). o.returned) told); values = sym (ap (λ (o : HostOutcome). o.answer) told) };
            }),
      )

  -- nor is the function that puts the spread list without pairs
  pub no_spreads_says : (list out : List ℕ) (returned : ℕ) (out' answer' : List ℕ)
      → HostPutNoSpreads list out returned out' answer' ↔ host_step lent (no_spreads list out) ≡ gives returned answer' out' lent
  no_spreads_says list out returned out' answer' =
      let said : Result ℕ Refusal = write_answer (no_spreads_refusal list out) (length (none.no_spreads list)) in (
        (λ p. step_is (no_spreads list out) ((exactly.no_spreads_exactly lent list out p.written out').0 p.promised) refl p.tells),
        (λ e.
            record {
              written = said;
              promised = (exactly.no_spreads_exactly lent list out said out').1 (ap (λ (o : HostOutcome). calls.wrote said o.beside) e);
              tells = tells_is (no_spreads list out) e;
            }),
      )
