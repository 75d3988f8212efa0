-- Values that a host has written, taken and read are the same from the first row behind the key on, behind the number that was written.
use Rattle.std.specs.Prelude.{ℕ, ◌≤◌, ◌<◌, ◌^◌, ◌≡◌, refl, Bool, true, false, cond, List, [], ◌∷◌, ◌++◌, eqb, length, get_or, take, drop, Ok, Result, Err}
use Rattle.std.proofs.Common.{sym, ap, ap₂, ◌∙◌, append_assoc, ⊎_elim, arith, eqb-true, le-ltb, get_or-drop}
use Rattle.std.proofs.Math.Option.{some}
use Rattle.laws.specs.Choice.{clash, either}
use Rattle.laws.specs.Rules.{first_broken}
use Rattle.forms.specs.declared.forms.Session.{Session}
use Rattle.forms.specs.declared.forms.Form.{Form}
use Rattle.forms.specs.declared.forms.Item.{Item}
use Rattle.forms.specs.declared.forms.Item.TheVariants.{Contract, Pair}
use Rattle.forms.specs.declared.forms.Subject.TheVariants.{Of}
use Rattle.forms.specs.declared.forms.Named.TheVariants as is
use Rattle.forms.specs.declared.rows.Level.{Level}
use Rattle.forms.specs.declared.rows.Level.TheVariants.{One, Two}
use Rattle.forms.specs.Forms.{named_rows, rows_of, subject_of, session_of, key_bytes_of}
use Rattle.layout.specs.Cells.{session_cell}
use Rattle.compose.specs.Write.{write_rows}
use Rattle.sequence.specs.Gaps.{Gaps, takes}
use Rattle.sequence.specs.Changes.{runs_after, full}
use Rattle.head.specs.Fields.{number_of, form_in}
use Rattle.lookup.specs.Lookup.{segment_of}
use Rattle.message.specs.Compared.{compared_there}
use Rattle.message.specs.Message.{message_key, key_place, acts_as}
use Rattle.state.specs.declared.answers.Judged.{Judged}
use Rattle.state.specs.declared.answers.Recorded.{Recorded}
use Rattle.state.specs.declared.refusal.Refusal.{Refusal}
use Rattle.state.specs.Answers.{judged_numbers, recorded_numbers, written_numbers, answered}
use Rattle.state.specs.AnswersLaws.{accepted_by}
use Rattle.state.specs.GoodState.{GoodState}
use Rattle.state.specs.Memory.{Lent}
use Rattle.batch.specs.Good.{GoodMessages, GoodBatch}
use Rattle.batch.specs.Promises.{JudgedBatch, TookBatch}
use Rattle.batch.proofs.TookLaws.{judged_good}
use Rattle.writer.specs.WriterPromises.{WroteValues}
use Rattle.listing.specs.ListRules.{gaps_of_letter}
use Rattle.reading.specs.ReadRules.{record_rules}
use Rattle.reading.specs.Record.{record_of_key, record_number, record_session, record_values}
use Rattle.values.specs.Values.{most, value_rows, quote_in}
use Rattle.written.specs.ReadBack.{batch_of, WritesUpdate, InNormalMarket, seen_for, counted_as, ReadsBack}
use Rattle.written.proofs.ReadBackLaws.{market_updates, numbered, reads_back}
use Rattle.written.proofs.ReadBackStepsLaws.{count_one, data_is}
use Rattle.written.specs.WrittenFieldsLaws.{segment_written}
use Rattle.written.proofs.WrittenUpdateLaws.{written, rows_good, message_there, written_short, form_is, number_is, key_is, acts_as_lem}
use Rattle.history.proofs.DemandsLaws.{took_judged}
use Rattle.reading.specs.Shown.{QuoteFor}
use Rattle.host.specs.Promises.{HostTook, code_of}
use Rattle.told.specs.Shown.{values_in_front, values_after, value_count}
use Rattle.told.specs.Told.{Tells, record_numbers}
use Rattle.hosted.specs.HostDemands.{GivesFour, Gives}
use Rattle.hosted.specs.HostItems.{values_for, quote_held, laid_from, HostReadItem, HostWroteItem}
use Rattle.hosted.proofs.HostItemsLaws.{item_put, front_number}
use Rattle.hosted.proofs.HostToldLaws.{is_refused, batch_refused}
use Rattle.hosted.specs.HostReadBack.{letter_for, UpdatesRecord, rows_in, GivesOne, ReadsOlder, HostReadsBack}
use Rattle.hosted.proofs.ValuesBackLaws.{values_seen, spread_values_seen}

-- ---- the record before

older_number : (item : Item) (lent : Lent) (level : Level) (letter : ℕ) (key : List ℕ) (number : ℕ) → 1 ≤ number → ReadsOlder item lent level letter key number
    → record_number lent.records (record_of_key item lent.lists letter key level) < number
older_number item lent level letter key number some_number o = go o.read.recorded o.read.promised.answers o.read.tells o.read.shows
  where
    there : ℕ
    there = record_number lent.records (record_of_key item lent.lists letter key level)

    session : Session
    session = record_session item lent.records (record_of_key item lent.lists letter key level)

    same : (empty : Bool) → eqb there 0 ≡ empty → (k s : ℕ) → 1 ∷ k ∷ s ∷ [] ≡ cond empty (0 ∷ []) (1 ∷ there ∷ session_cell session ∷ []) → there ≡ k
    same true t k s e = absurd (clash (cc))
    same false t k s e = cc

    none : (empty : Bool) → eqb there 0 ≡ empty → 0 ∷ [] ≡ cond empty (0 ∷ []) (1 ∷ there ∷ session_cell session ∷ []) → there ≡ 0
    none true t e = eqb-true there 0 t
    none false t e = absurd (clash (cc))

    go : (a : Recorded) → recorded_numbers a ≡ answered (first_broken (record_rules item lent letter key)) (record_values there session) → Tells (record_numbers a) 0 o.answer'
        → o.values' ≡ values_after item a (values_for item level o.read.quote) o.values → there < number
    go (Recorded.Record k s) e t shows =
        let at : there ≡ k = same (eqb there 0) refl k (session_cell s) (accepted_by (first_broken (record_rules item lent letter key)) (record_values there session) (1 ∷ k ∷ session_cell s ∷ []) e).1 in
        let first : get_or o.values' 0 0 ≡ k =
        ap (λ (ns : List ℕ). get_or ns 0 0) (shows ∙ item_put item k s level o.read.quote o.values o.long ∙ append_assoc (values_in_front item k s) _ _) ∙ front_number item k s _ in
        ⊎_elim (λ (h : o.answer' ≡ 0 ∷ 0 ∷ 0 ∷ 0 ∷ []). let told = t.values in absurd (clash (cc))) (λ (h : get_or o.values' 0 0 < number). omega (arith, at, first)) o.older
    go Recorded.NoRecord e t shows =
        let at : there ≡ 0 = none (eqb there 0) refl (accepted_by (first_broken (record_rules item lent letter key)) (record_values there session) (0 ∷ []) e).1 in
        omega (arith, at)
    go (Recorded.Refused refusal) e t shows = absurd (is_refused refusal t refl)

-- ---- what is written

seen_values_lem : (item : Item) (form : Form) (level : Level) → subject_of form ≡ Of item level → (key values : List ℕ) → (write_rows 0 (rows_of form) key (laid_from item level values form)).verdict ≡ Ok tt
    → values_for item level (seen_for item form (quote_held item level values)) ≡ rows_in item form level values
seen_values_lem Contract form level tells key values fine = values_seen key values form level tells fine
seen_values_lem Pair form level tells key values fine = spread_values_seen values form level tells

-- the market type of the quote is that among the values
normal_held : (item : Item) (level : Level) (values : List ℕ) → UpdatesRecord item values → InNormalMarket item (quote_held item level values)
unfolding quote_in value_rows named_rows
normal_held Contract One values e = simp get_or-drop (rw e refl)
normal_held Contract Two values e = simp get_or-drop (rw e refl)
normal_held Pair level values e = tt

module _ (item : Item) (code : List ℕ) (level : Level) (number : ℕ) (key values out out' : List ℕ) (n : ℕ) (form : Form)
    (update : WritesUpdate item (code_of code) level form) (normal : UpdatesRecord item values) (few : number < 2 ^ 32) (key_long : length key ≡ key_bytes_of item)
    (wrote : HostWroteItem item code level number key values out 0 out' (n ∷ 0 ∷ 0 ∷ 0 ∷ []))
  where
    abbrev letter : ℕ
    letter = letter_for code

    abbrev quote : QuoteFor item
    quote = quote_held item level values

    abbrev laid : Form → List ℕ
    laid = laid_from item level values

    abbrev batch : List ℕ
    batch = batch_of (take n out')

    message_written : WroteValues item (code_of code) level number key laid out (Ok n) out'
    message_written = go wrote.written wrote.promised wrote.tells
      where
        go : (a : Result ℕ Refusal) → WroteValues item (code_of code) level number key laid out a out' → Tells (written_numbers a) 0 (n ∷ 0 ∷ 0 ∷ 0 ∷ [])
            → WroteValues item (code_of code) level number key laid out (Ok n) out'
        go (Ok m) p t = let same : m ≡ n = ap (λ (ns : List ℕ). get_or ns 0 0) (sym t.values) in rw same at p
        go (Err refusal) p t = absurd (is_refused refusal t refl)

    abbrev message : List ℕ
    message = written item (code_of code) level number key laid out out' n form update.0 message_written

    abbrev rows_laid : List ℕ
    rows_laid = (write_rows 0 (rows_of form) key (laid form)).bytes

    is_normal : InNormalMarket item quote
    is_normal = normal_held item level values normal

    -- ---- against a good state that lists its contract or pair and has room for its number

    module _ (lent : Lent) (state : GoodState lent) (place : ℕ) (listed : key_place item lent.lists letter key ≡ some place)
        (room : takes (gaps_of_letter lent letter) number ≡ true → full (gaps_of_letter lent letter) number ≡ false)
      where
        abbrev new : Bool
        new = takes (gaps_of_letter lent letter) number

        -- the keys compared with its own
        abbrev keys : ℕ
        keys = compared_there item lent.lists key (segment_of lent.lists.contracts letter)

        one_told : (a : Judged) {returned : ℕ} {answer' : List ℕ} → a ≡ counted_as new keys
            → Tells (judged_numbers a) returned answer' → GivesOne item lent letter number key returned answer'
        one_told a {returned} {answer'} e t = go new (rw e at t)
          where
            go : (b : Bool) → Tells (judged_numbers (counted_as b keys)) returned answer' → GivesFour returned answer' 0 (cond b 1 0) (cond b 0 1) 0 keys
            go true t = record { returns = t.number; answers = t.values }
            go false t = record { returns = t.number; answers = t.values }

        -- told one taken, its number was taken
        told_taken : {returned compared : ℕ} → GivesOne item lent letter number key returned (1 ∷ 0 ∷ 0 ∷ compared ∷ []) → new ≡ true
        told_taken {compared = compared} g =
            ⊎_elim (λ (t : new ≡ true). t)
            (λ (t : new ≡ false). let none : get_or (1 ∷ 0 ∷ 0 ∷ compared ∷ []) 0 0 ≡ cond new 1 0 = ap (λ (ns : List ℕ). get_or ns 0 0) g.answers in absurd (clash (sym (rw t at none))))
            (either new)

        back : ReadsBack item letter key level number (session_of form) (seen_for item form quote) lent batch
        back = reads_back item (code_of code) level number key quote out out' n form update few key_long message_written lent state room is_normal place listed

        judged_one : (a : Judged) → JudgedBatch lent batch a → a ≡ counted_as new keys
        judged_one = back.counts.judged

        values_read : record_number lent.records (record_of_key item lent.lists letter key level) < number → (lent' : Lent) (compared : ℕ) → HostTook lent batch 0 lent' (1 ∷ 0 ∷ 0 ∷ compared ∷ [])
            → (before : List ℕ) → length before ≡ most → (returned : ℕ) (values' answer' : List ℕ) → HostReadItem item lent' letter key level before returned values' answer'
            → Gives returned answer' 0 1 0 0 × (values' ≡ (values_in_front item number (session_of form) ++ rows_in item form level values) ++ drop (value_count item level) before)
        values_read newer lent' compared t before before_long returned values' answer' p =
            let taken : new ≡ true = told_taken (one_told t.judged (judged_one t.judged (took_judged t.promised)) t.tells) in
            let one = back.back taken newer t.judged lent' t.promised p.recorded p.quote p.promised in
            let writable = rows_good item (code_of code) level number key laid out out' n form update.0 message_written in
            let told : Tells (record_numbers (Recorded.Record number (session_of form))) returned answer' = rw one.number_back at p.tells in (
              record { returns = told.number; answers = told.values },
              p.shows ∙ ap₂ (λ (x : Recorded) (y : QuoteFor item). values_after item x (values_for item level y) before) one.number_back one.quote_back
                  ∙ item_put item number (session_of form) level (seen_for item form quote) before before_long
                  ∙ ap (λ (vs : List ℕ). (values_in_front item number (session_of form) ++ vs) ++ drop (value_count item level) before) (seen_values_lem item form level update.1 key values writable),
            )

    -- ---- of any memory, where it was taken

    short : length message ≤ 32767
    short = omega (arith, written_short item (code_of code) level number key laid out out' n form update.0 message_written)

    there : take n out' ≡ message
    there = message_there item (code_of code) level number key laid out out' n form update.0 message_written

    named : form_in message ≡ is.Form form
    named = form_is item (code_of code) level number key laid out out' n form update.0 message_written

    acts : acts_as message ≡ is.Form form
    acts =
        acts_as_lem item (code_of code) level number key laid out out' n form update.0 message_written (level, update.1) key_long true
        (market_updates item level form update.1 quote is_normal)

    has_key : message_key item message ≡ key
    has_key = key_is item (code_of code) level number key laid out out' n form update.0 message_written (level, update.1) key_long

    has_number : number_of message ≡ number
    has_number = number_is item (code_of code) level number key laid out out' n form update.0 message_written few

    -- what an accepted batch says of the memory that was lent
    module _ (lent : Lent) (good : GoodBatch lent batch) where
      abbrev gaps : Gaps
      gaps = gaps_of_letter lent letter

      messages : GoodMessages 1 lent.lists letter gaps message
      unfolding gaps_of_letter
      messages = rw (there, count_one message short, data_is message short, segment_written (code_of code) number rows_laid) at good.messages

      is_listed : (place : ℕ) × (key_place item lent.lists letter key ≡ some place)
      is_listed = rw (acts, update.1, has_key) at messages.0.contract

      has_room : takes gaps number ≡ true → full gaps number ≡ false
      has_room t = le-ltb 64 (length (runs_after gaps number)) (rw (named, has_number, update.1, t) at messages.1)

    took_good : {lent lent' : Lent} {answer' : List ℕ} → HostTook lent batch 0 lent' answer' → GoodBatch lent batch
    took_good {lent} {lent'} {answer'} p = go p.judged p.promised p.tells
      where
        go : (a : Judged) → TookBatch lent batch a lent' → Tells (judged_numbers a) 0 answer' → GoodBatch lent batch
        go (Judged.Accepted taken old heartbeats compared) t told = (judged_good lent batch (Judged.Accepted taken old heartbeats compared) (took_judged t)).0 (taken, old, heartbeats, compared, refl)
        go (Judged.Refused refusal compared) t told = absurd (batch_refused refusal compared told refl)

    -- all of it
    pub host_reads_back : HostReadsBack item form level letter number key values (take n out')
    host_reads_back =
        record {
          accepted = λ lent state place listed room returned answer' p. one_told lent state place listed room p.judged (judged_one lent state place listed room p.judged p.promised) p.tells;
          reads = λ lent lent' compared t older.
              let good = took_good t in
              let listed = is_listed lent good in
              let newer = older_number item lent level letter key number (numbered item (code_of code) level number key quote out out' n form update few key_long message_written) older in
              values_read lent good.state listed.0 listed.1 (has_room lent good) newer lent' compared t;
        }
