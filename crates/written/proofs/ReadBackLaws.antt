-- What is written reads back: judged, taken and read from its record, by the promises of the public calls alone; and what is written with
-- another market type than N is passed over.
use Rattle.std.specs.Prelude.{ℕ, ◌+◌, ◌-◌, ◌^◌, ◌≤◌, ◌<◌, ◌≡◌, refl, Bool, true, false, List, eqb, length, get_or, take, drop, Ok}
use Rattle.std.proofs.Common.{ap, ◌∙◌, ⊎_elim, arith, eqb-true, eq-eqb, ne_eqb}
use Rattle.std.proofs.Math.Path.{sym}
use Rattle.std.proofs.Math.Option.{Option, none, some}
use Rattle.laws.specs.Rules.{first_broken}
use Rattle.laws.specs.Choice.{either}
use Rattle.lookup.specs.Lookup.{segment_of}
use Rattle.pairs.specs.Lists.{Lists}
use Rattle.quote.specs.declared.quote.Quote.{Quote}
use Rattle.spread.specs.declared.spread.SpreadQuote.{SpreadQuote}
use Rattle.forms.specs.declared.rows.Level.{Level}
use Rattle.layout.specs.Cells.{zeros_behind}
use Rattle.layout.specs.Plain.{seen_values}
use Rattle.layout.specs.Read.{Outcome}
use Rattle.quote.specs.Quote.{of_pair, quote_of, values_of, seen_quote}
use Rattle.spread.specs.Spread.{spread_quote_of, spread_values_of, seen_spread}
use Rattle.quote.proofs.QuoteTrip.{read_kept, written_back}
use Rattle.spread.proofs.SpreadTrip.{spread_read_kept, spread_written_back}
use Rattle.compose.specs.RoundTrip.{rows_back}
use Rattle.compose.specs.Write.{write_rows}
use Rattle.forms.specs.declared.forms.Form.{Form}
use Rattle.forms.specs.declared.forms.Item.{Item}
use Rattle.forms.specs.declared.forms.Item.TheVariants.{Contract, Pair}
use Rattle.forms.specs.declared.forms.Subject.TheVariants.{Of}
use Rattle.forms.specs.declared.forms.Named.TheVariants as is
use Rattle.forms.specs.Forms.{rows_of, subject_of, record_form, session_of, is_stamped, key_bytes_of}
use Rattle.forms.specs.Sizes.{most_rows, key_row_count}
use Rattle.sequence.specs.Gaps.{takes}
use Rattle.sequence.specs.Changes.{full}
use Rattle.head.specs.Fields.{segment_letter}
use Rattle.head.specs.GoodHead.{LetterListed}
use Rattle.head.specs.HeadLaws.{listed_exact, number_exact, stamped_by}
use Rattle.message.specs.Compared.{compared_there, message_compared}
use Rattle.message.specs.Message.{place_in, key_place, updates}
use Rattle.message.specs.MessageLaws.{key_found}
use Rattle.state.specs.declared.answers.Judged.{Judged}
use Rattle.state.specs.declared.answers.Judged.TheVariants.{Accepted}
use Rattle.state.specs.declared.answers.Recorded.{Recorded}
use Rattle.writer.specs.declared.writing.Code.{Code}
use Rattle.turns.specs.Turns.{message_acts, number_acts}
use Rattle.batch.specs.Acts.{box_of}
use Rattle.stores.specs.Stored.{stored}
use Rattle.state.specs.Memory.{Lent}
use Rattle.slots.specs.Slots.{level_cells}
use Rattle.slots.specs.Places.{slot_at, slot_in, record_of}
use Rattle.slots.specs.SlotsLaws.{cells_by_rows}
use Rattle.state.specs.AnswersLaws.{recorded_told}
use Rattle.listing.specs.ListRules.{gaps_of_letter}
use Rattle.reading.specs.ReadRules.{record_rules}
use Rattle.state.specs.GoodState.{GoodState}
use Rattle.state.specs.StateLaws.{good_unrefused, segment_holds}
use Rattle.batch.specs.Promises.{TookBatch}
use Rattle.reading.specs.Record.{slot_there, record_of_key, record_number, record_session, stamp_shown, cells_at}
use Rattle.reading.specs.RecordLaws.{key_holds, record_found, record_lent}
use Rattle.reading.specs.Shown.{QuoteFor, shown, cells_for, stamp_in, ReadsItem}
use Rattle.reading.specs.KeptLaws.{cells_wide, session_kept, shown_kept}
use Rattle.state.specs.State.{segment_rules}
use Rattle.batch.proofs.TookLaws.{state_good}
use Rattle.writer.specs.WriterPromises.{WroteValues, WroteMessage, WroteSpread}
use Rattle.written.specs.ReadBack.{batch_of, WritesUpdate, InNormalMarket, seen_for, counted_as, Counts, ReadsAs, ReadsBack, PassesOver}
use Rattle.written.proofs.ReadBackStepsLaws.{counted, left_taken, left_old, number_stored, cells_stored, length_stored}
use Rattle.written.specs.WrittenFieldsLaws.{segment_written}
use Rattle.written.proofs.WrittenRowsLaws.{market_row}
use Rattle.written.proofs.WrittenUpdateLaws.{written, rows_good, number_fits, form_is, market_there, keys_are, no_keys, passed_is, message_is}

-- the record of a listed contract or pair may be asked for, and lies in the records lent
module _ (item : Item) (lent : Lent) (state : GoodState lent) (letter : ℕ) (key : List ℕ) (place : ℕ) (listed : key_place item lent.lists letter key ≡ some place) where
  found : (segment : ℕ) × (segment_of lent.lists.contracts letter ≡ some segment) × (place_in item lent.lists segment key ≡ some place)
  found = key_found item lent.lists letter key place listed

  asked : first_broken (segment_rules lent letter) ≡ none
  asked = segment_holds lent letter (good_unrefused lent state) found.0 found.1

  record_allowed : first_broken (record_rules item lent letter key) ≡ none
  record_allowed = key_holds item lent letter key asked found.0 found.1 place found.2

  record_room : (level : Level) → record_of_key item lent.lists letter key level + level_cells item level ≤ length lent.records
  record_room level =
      rw (← record_found item lent letter key asked found.0 found.1 place found.2 level)
      (omega (arith, record_lent item lent letter key asked found.0 found.1 place found.2 level, cells_by_rows item level))

-- ---- the cells that are read again

-- what is read again of a quote that was written, by how a quote and its cells belong together
same_again : {A : Type 0} (show : List ℕ → A) (cells_of : A → List ℕ) {read cells : List ℕ} {seen : A} → read ≡ cells → show read ≡ seen → cells_of (show read) ≡ read
    → (cells ≡ cells_of seen) × (show cells ≡ seen)
same_again show cells_of same shows kept = (sym same ∙ sym kept ∙ ap cells_of shows, ap show (sym same) ∙ shows)

-- they hold what the form sees of the quote
quote_again : (item : Item) (level : Level) (form : Form) → subject_of form ≡ Of item level → (quote : QuoteFor item) (key : List ℕ)
    → (write_rows 0 (rows_of form) key (cells_for item form quote)).verdict ≡ Ok tt
    → (zeros_behind (seen_values (rows_of form) (cells_for item form quote)) ≡ cells_for item form (seen_for item form quote))
    × (shown item form (zeros_behind (seen_values (rows_of form) (cells_for item form quote))) ≡ seen_for item form quote)
quote_again Contract level form tells quote key good =
    let back = written_back form (ap of_pair tells) quote key good in
    same_again (quote_of form) (values_of form) (ap (λ (o : Outcome). zeros_behind o.cells) (rows_back 0 (rows_of form) key (values_of form quote) good)) back.1
    (read_kept form (write_rows 0 (rows_of form) key (values_of form quote)).bytes back.0 (ap of_pair tells))
quote_again Pair level form tells quote key good =
    let back = spread_written_back form (ap of_pair tells) quote key good in
    same_again (spread_quote_of form) (spread_values_of form) (ap (λ (o : Outcome). zeros_behind o.cells) (rows_back 0 (rows_of form) key (spread_values_of form quote) good)) back.1
    (spread_read_kept form (write_rows 0 (rows_of form) key (spread_values_of form quote)).bytes back.0 (ap of_pair tells))

-- in the normal market an update acts on its record
pub market_updates : (item : Item) (level : Level) (form : Form) → subject_of form ≡ Of item level → (quote : QuoteFor item) → InNormalMarket item quote
    → updates item (get_or (cells_for item form quote) key_row_count 0) ≡ true
market_updates Contract level form tells quote normal = eq-eqb _ 78 ((market_row form level tells).1 quote ∙ normal)
market_updates Pair level form tells quote normal = refl

-- ---- an update that was written, and the batch that holds just it

module _ (item : Item) (code : Code) (level : Level) (number : ℕ) (key : List ℕ) (quote : QuoteFor item) (out out' : List ℕ) (n : ℕ) (form : Form)
    (update : WritesUpdate item code level form) (few : number < 2 ^ 32) (key_long : length key ≡ key_bytes_of item)
    (wrote : WroteValues item code level number key (λ form. cells_for item form quote) out (Ok n) out')
  where
    abbrev letter : ℕ
    letter = segment_letter code.0

    abbrev values : Form → List ℕ
    values form = cells_for item form quote

    abbrev batch : List ℕ
    batch = batch_of (take n out')

    abbrev message : List ℕ
    message = written item code level number key values out out' n form update.0 wrote

    pub numbered : 1 ≤ number
    numbered = rw update.1 at ((number_exact (is.Form form) number).0 (number_fits item code level number key values out out' n form update.0 wrote))

    -- the cells of its rows
    abbrev cells : List ℕ
    cells = zeros_behind (seen_values (rows_of form) (values form))

    again : (cells ≡ cells_for item form (seen_for item form quote)) × (shown item form cells ≡ seen_for item form quote)
    again = quote_again item level form update.1 quote key (rows_good item code level number key values out out' n form update.0 wrote)

    wide : length cells ≡ most_rows
    wide = ap length again.0 ∙ cells_wide item form (seen_for item form quote)

    -- its time stamp is shown where it has one
    stamp_is : stamp_shown item letter ≡ stamp_in item form
    stamp_is = by item update.1
      where
        by : (item' : Item) → subject_of form ≡ Of item' level → stamp_shown item' letter ≡ stamp_in item' form
        by Contract tells =
            ap (λ (l : ℕ). eqb l 0x46) (sym (segment_written code number _))
            ∙ sym (stamped_by message form level (form_is item code level number key values out out' n form update.0 wrote) tells)
        by Pair tells = refl

    -- against a good state that has room for its number
    module _ (lent : Lent) (state : GoodState lent) (room : takes (gaps_of_letter lent letter) number ≡ true → full (gaps_of_letter lent letter) number ≡ false) where
      abbrev keys : ℕ
      keys = compared_there item lent.lists key (segment_of lent.lists.contracts letter)

      abbrev at : ℕ
      at = record_of_key item lent.lists letter key level

      -- in the normal market, where its contract or pair is listed
      module _ (normal : InNormalMarket item quote) (place : ℕ) (listed : key_place item lent.lists letter key ≡ some place) where
        acting : updates item (get_or (values form) key_row_count 0) ≡ true
        acting = market_updates item level form update.1 quote normal

        abbrev changed : List ℕ → List ℕ
        changed = stored (slot_at lent.lists (slot_in item (segment_of lent.lists.contracts letter) place level)) number (record_of item form cells)

        acts : message_acts lent.lists letter (box_of lent letter) 0 message ≡ number_acts (box_of lent letter) 0 number changed
        unfolding message_acts
        acts = rw (message_is item code level number key values out out' n form update.0 wrote (level, update.1) key_long few lent.lists acting place listed, update.1)

        keys_there_lem : message_compared lent.lists letter message ≡ keys
        keys_there_lem = keys_are item code level number key values out out' n form update.0 wrote (level, update.1) key_long acting lent.lists

        counts : Counts letter number keys lent batch
        counts = counted item code level number key values out out' n form update.0 wrote lent state room changed acts keys keys_there_lem

        -- and where its number is taken and newer than the record, the record then reads as what was written
        module _ (taken : takes (gaps_of_letter lent letter) number ≡ true) (newer : record_number lent.records at < number)
            (answer : Judged) (lent' : Lent) (took : TookBatch lent batch answer lent')
          where
            state_then : GoodState lent'
            state_then =
                let is : answer ≡ Accepted 1 0 0 keys = counts.taken answer lent' took ∙ ap (λ (t : Bool). counted_as t keys) taken in
                state_good lent batch 1 0 0 keys lent' (rw is at took)

            left : (lent'.lists ≡ lent.lists) × (lent'.records ≡ changed lent.records)
            left = left_taken item code level number key values out out' n form update.0 wrote lent state room changed acts keys keys_there_lem answer lent' took taken

            at_then : record_of_key item lent'.lists letter key level ≡ at
            at_then = ap (λ (l : Lists). record_of_key item l letter key level) left.0

            no_rule_broken : first_broken (record_rules item lent' letter key) ≡ none
            no_rule_broken = record_allowed item lent' state_then letter key place (ap (λ (l : Lists). key_place item l letter key) left.0 ∙ listed)

            place_is : slot_at lent.lists (slot_in item (segment_of lent.lists.contracts letter) place level) ≡ at
            unfolding record_of_key
            place_is = sym (ap (λ (o : Option ℕ). slot_at lent.lists (slot_there item lent.lists letter level o)) listed)

            abbrev then : List ℕ
            then = stored at number (record_of item form cells) lent.records

            records_then : lent'.records ≡ then
            records_then = left.1 ∙ ap (λ (k : ℕ). stored k number (record_of item form cells) lent.records) place_is

            inside : at + level_cells item level ≤ length lent.records
            inside = record_room item lent state letter key place listed level

            number_then : record_number lent'.records at ≡ number
            number_then = ap (λ (r : List ℕ). record_number r at) records_then ∙ number_stored item level form update.1 lent.records at number cells wide inside newer

            cells_there : take (level_cells item level - 1) (drop (at + 1) then) ≡ record_of item form cells
            cells_there = cells_stored item level form update.1 lent.records at number cells wide inside newer

            session_then : record_session item lent'.records at ≡ session_of form
            session_then = ap (λ (r : List ℕ). record_session item r at) records_then ∙ session_kept item level form update.1 then at cells cells_there

            long_then : at + level_cells item level ≤ length then
            long_then = omega (arith, inside, length_stored item level form update.1 lent.records at number cells wide inside newer)

            shown_then : shown item (record_form item level) (cells_at item (stamp_shown item letter) lent'.records at level) ≡ seen_for item form quote
            shown_then =
                ap (λ (r : List ℕ). shown item (record_form item level) (cells_at item (stamp_shown item letter) r at level)) records_then
                ∙ shown_kept item level form update.1 then at cells cells_there long_then (seen_for item form quote) again.0 (stamp_shown item letter) stamp_is
                ∙ again.1

            some_number : eqb number 0 ≡ false
            some_number = ne_eqb number 0 (λ e. omega (arith, numbered))

            reads_as : (recorded : Recorded) (read : QuoteFor item) → ReadsItem item lent' letter key level recorded read → ReadsAs number (session_of form) (seen_for item form quote) recorded read
            reads_as recorded read reads =
                record {
                  number_back = recorded_told recorded (Recorded.Record number (session_of form)) (reads.answers ∙ rw (no_rule_broken, at_then, number_then, session_then, some_number));
                  quote_back = reads.quotes ∙ rw (no_rule_broken, at_then, number_then, some_number) shown_then;
                }

        -- all of it
        pub reads_back : ReadsBack item letter key level number (session_of form) (seen_for item form quote) lent batch
        reads_back = record { counts = counts; back = reads_as }

      -- in another market, where its segment is listed
      module _ (other : updates item (get_or (values form) key_row_count 0) ≡ false) (listed : LetterListed lent.lists.contracts letter) where
        passes : message_acts lent.lists letter (box_of lent letter) 0 message ≡ number_acts (box_of lent letter) 0 number (λ records. records)
        unfolding message_acts
        passes =
            rw (passed_is item code level number key values out out' n form update.0 wrote (level, update.1) key_long few lent.lists other ((listed_exact lent.lists.contracts letter).1 listed))

        none_there : message_compared lent.lists letter message ≡ 0
        none_there = no_keys item code level number key values out out' n form update.0 wrote (level, update.1) key_long other lent.lists

        pub passes_over : PassesOver letter number lent batch
        passes_over =
            record {
              counts = counted item code level number key values out out' n form update.0 wrote lent state room (λ records. records) passes 0 none_there;
              records_kept = λ answer lent' took.
                  ⊎_elim (λ (t : takes (gaps_of_letter lent letter) number ≡ true).
                  (left_taken item code level number key values out out' n form update.0 wrote lent state room (λ records. records) passes 0 none_there answer lent' took t).1)
                  (left_old item code level number key values out out' n form update.0 wrote lent state room (λ records. records) passes 0 none_there answer lent' took)
                  (either (takes (gaps_of_letter lent letter) number));
            }

-- ---- a contract's quote, and a pair's

module _ (code : Code) (level : Level) (number : ℕ) (key out out' : List ℕ) (n : ℕ) (form : Form) (few : number < 2 ^ 32) (lent : Lent) (state : GoodState lent)
    (room : takes (gaps_of_letter lent (segment_letter code.0)) number ≡ true → full (gaps_of_letter lent (segment_letter code.0)) number ≡ false)
  where
    -- a contract's quote in the normal market, row for row; level 1 has the first order a side, and the others read as none
    pub contract_back : (quote : Quote) → WroteMessage code level number key quote out (Ok n) out' → length key ≡ key_bytes_of Contract
        → WritesUpdate Contract code level form → quote.market_type ≡ 78 → (place : ℕ) → key_place Contract lent.lists (segment_letter code.0) key ≡ some place
        → ReadsBack Contract (segment_letter code.0) key level number (session_of form) (seen_quote form quote) lent (batch_of (take n out'))
    contract_back quote wrote key_long update normal place listed =
        reads_back Contract code level number key quote out out' n form update few key_long wrote lent state room normal place listed

    -- and a pair's, with every minus but that of zero
    pub pair_back : (quote : SpreadQuote) → WroteSpread code level number key quote out (Ok n) out' → length key ≡ key_bytes_of Pair
        → WritesUpdate Pair code level form → (place : ℕ) → key_place Pair lent.lists (segment_letter code.0) key ≡ some place
        → ReadsBack Pair (segment_letter code.0) key level number (session_of form) (seen_spread form quote) lent (batch_of (take n out'))
    pair_back quote wrote key_long update place listed =
        reads_back Pair code level number key quote out out' n form update few key_long wrote lent state room tt place listed

    -- M-104: a contract's quote in another market, whose key need not be listed
    pub contract_passed : (quote : Quote) → WroteMessage code level number key quote out (Ok n) out' → length key ≡ key_bytes_of Contract
        → WritesUpdate Contract code level form → (quote.market_type ≡ 78 → ⊥) → LetterListed lent.lists.contracts (segment_letter code.0)
        → PassesOver (segment_letter code.0) number lent (batch_of (take n out'))
    contract_passed quote wrote key_long update other listed =
        passes_over Contract code level number key quote out out' n form update few key_long wrote lent state room (rw ((market_row form level update.1).1 quote) (ne_eqb quote.market_type 78 other)) listed

-- M-104: "D and T keep N alone": what has no time stamp is written in the normal market only
pub normal_alone : (code : Code) (level : Level) (number : ℕ) (key : List ℕ) (quote : Quote) (out out' : List ℕ) (n : ℕ) (form : Form)
    → WritesUpdate Contract code level form → WroteMessage code level number key quote out (Ok n) out' → is_stamped form ≡ false → quote.market_type ≡ 78
normal_alone code level number key quote out out' n form update wrote plain =
    let taken = (market_there Contract code level number key (λ form. values_of form quote) out out' n form update.0 wrote level update.1).0 in
    sym ((market_row form level update.1).1 quote) ∙ eqb-true _ 78 (rw plain at taken)
