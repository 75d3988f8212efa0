-- A message that was written: its rows are good, it stands in front of the lent bytes, and a heartbeat, where its segment is listed,
-- and an update, where its contract or pair is, are what they were written from.
use Prim.Native.Nat.{ℕ, ◌+◌, ◌^◌, ◌≤◌, ◌<◌}
use Rattle.std.specs.Prelude.{◌≡◌, Bool, cond, length, take, drop, Ok, Option, Some, Result}
use Rattle.std.proofs.Math.Path.{refl, ap, sym}
use Rattle.std.proofs.Common.{◌∙◌, get_or-take, get_or-drop}
use Rattle.std.proofs.Math.Bool.{true, false}
use mathlib.Core.List.{List, []}
use Rattle.std.proofs.Math.Option.{some}
use native.Mathlib.Omega.{arith}
use borrow.Author.Tests.{eq-eqb}
use Rattle.std.proofs.Math.ListN.{get_or}
use Rattle.std.proofs.Math.Seq.{take_all}
use Rattle.pairs.specs.Lists.{Lists}
use Rattle.lookup.specs.Lookup.{segment_of}
use Rattle.forms.specs.declared.rows.Level.{Level}
use Rattle.forms.specs.declared.rows.Markets.TheVariants.{Normal, Any}
use Rattle.forms.specs.declared.forms.Form.{Form}
use Rattle.forms.specs.declared.forms.Item.{Item}
use Rattle.forms.specs.declared.forms.Item.TheVariants.{Contract, Pair}
use Rattle.forms.specs.declared.forms.Named.{Named}
use Rattle.forms.specs.declared.forms.Named.TheVariants as is
use Rattle.forms.specs.declared.forms.Subject.TheVariants.{Nothing, Of}
use Rattle.layout.specs.Cells.{zeros_behind}
use Rattle.layout.specs.Plain.{seen_values}
use Rattle.layout.specs.Read.{is_market_type}
use Rattle.forms.specs.Forms.{rows_of, subject_of, is_stamped, key_bytes_of, form_of}
use Rattle.forms.specs.FormsLaws.{fits, key_first}
use Rattle.compose.specs.RoundTrip.{key_of_update, rows_back}
use Rattle.forms.specs.Rows.{data_length, message_length, offset_of}
use Rattle.forms.specs.Sizes.{most_data, bare_length, key_row_count, key_bytes}
use Rattle.compose.specs.RowTextLaws.{letter_is}
use Rattle.compose.specs.Write.{text, letter_text, row_text, Laid, write_rows}
use Rattle.compose.specs.WriteLaws.{good_length}
use Rattle.message.specs.declared.body.Outline.{Outline}
use Rattle.message.specs.declared.body.What.{What}
use Rattle.message.specs.declared.body.What.TheVariants as what
use Rattle.head.specs.declared.head.Fault.{Fault}
use Rattle.head.specs.Fields.{segment_letter, length_of, number_of, data_of, form_in}
use Rattle.head.specs.Head.{head_rules}
use Rattle.head.specs.Rules.{head_of}
use Rattle.head.specs.Tests.{is_some, coded, takes_number, takes_length}
use Rattle.head.specs.HeadLaws.{framed_exact, trailed_exact, summed_exact}
use Rattle.message.specs.Compared.{compared_there, message_compared}
use Rattle.message.specs.Message.{Message, TellsOf, message_key, key_place, message_place, market_in, updates, acting, acts_as, of_named}
use Rattle.message.specs.Reads.{message_of}
use Rattle.message.specs.MessageLaws.{key_found, good_head, heartbeat_reads, outline_told, acts, update_is}
use Rattle.head.specs.RulesLaws.{hold_good}
use Rattle.slots.specs.SlotsLaws.{rows_behind}
use Rattle.writer.specs.declared.writing.Code.{Code}
use Rattle.writer.specs.Writer.{rows_written, values_written, data_written, message_bytes}
use Rattle.writer.specs.Chosen.{form_written, numbered}
use Rattle.writer.specs.WriterLaws.{message_long}
use Rattle.writer.specs.WriterPromises.{WroteValues}
use Rattle.writer.specs.WriterPromisesLaws.{written_good, message_in_front}
use Rattle.written.specs.WrittenFieldsLaws.{letter_written, segment_written, second_written, number_written, length_written_lem, data_written_lem, form_written_lem, sum_written_lem, end_written, field_written}
use Rattle.written.specs.WrittenFormLaws.{form_told_lem, is_code_lem}
use Rattle.written.proofs.WrittenRowsLaws.{market_row}

module _ (item : Item) (code : Code) (level : Level) (number : ℕ) (key : List ℕ) (values : Form → List ℕ) (out out' : List ℕ) (n : ℕ)
    (form : Form) (chose : form_written item code level ≡ Some form) (wrote : WroteValues item code level number key values out (Ok n) out')
  where
    abbrev rows : Laid
    rows = write_rows 0 (rows_of form) key (values form)

    -- the value of a contract's market type
    abbrev pub market : ℕ
    market = get_or (values form) key_row_count 0

    abbrev pub written : List ℕ
    written = message_bytes code number rows.bytes

    data_laid : data_written (form_written item code level) key (values_written (form_written item code level) values) ≡ rows
    unfolding data_written
    data_laid = ap (λ (c : Option Form). write_rows 0 (rows_written c) key (values_written c values)) chose

    pub rows_good : rows.verdict ≡ Ok tt
    rows_good = ap (λ (l : Laid). l.verdict) (sym data_laid) ∙ (written_good item code level number key values out n wrote).rows_good

    pub number_fits : takes_number (is.Form form) number ≡ true
    number_fits = ap (λ (c : Option Form). numbered c number) (sym chose) ∙ (written_good item code level number key values out n wrote).has_number

    pub message_there : take n out' ≡ written
    message_there = message_in_front item code level number key values out n wrote ∙ ap (λ (l : Laid). message_bytes code number l.bytes) data_laid

    long : length rows.bytes ≡ data_length (rows_of form)
    long = good_length 0 (rows_of form) key (values form) rows_good

    short : length rows.bytes + bare_length < 2 ^ 16
    short = omega (arith, long, (fits form).data_fits)

    length_is : length_of written ≡ message_length (rows_of form)
    length_is = length_written_lem code number rows.bytes short ∙ ap (λ (n : ℕ). n + bare_length) long

    pub all_of_it : length written ≡ length_of written
    all_of_it = message_long code number rows.bytes ∙ sym (length_written_lem code number rows.bytes short)

    pub written_short : length written ≤ most_data + bare_length
    written_short = omega (arith, message_long code number rows.bytes, long, (fits form).data_fits)

    data_is : data_of written ≡ rows.bytes
    data_is = data_written_lem code number rows.bytes short

    pub data_there : data_of (take n out') ≡ rows.bytes
    data_there = ap data_of message_there ∙ data_is

    pub form_is : form_in written ≡ is.Form form
    form_is =
        form_written_lem code number rows.bytes short form
        (ap (λ (n : ℕ). form_of code.0 code.1 (n + bare_length)) long ∙ form_told_lem code.0 code.1 item level form chose)

    pub number_is : number < 2 ^ 32 → number_of written ≡ number
    number_is few = number_written code number rows.bytes few

    -- where its segment is listed
    module _ (few : number < 2 ^ 32) (lists : Lists) (letter_listed : is_some (segment_of lists.contracts (segment_letter code.0)) ≡ true) where
      -- it breaks no rule before those of its rows and its key
      head_good : head_of (segment_letter code.0) (segment_of lists.contracts (segment_letter code.0)) written ≡ Ok tt
      unfolding head_of coded
      head_good =
          let letter : ℕ = segment_letter code.0 in
          let all = all_of_it in
          let n = length_is in
          let five = (framed_exact written).1 (record { begun = omega arith; least = omega arith; within = omega arith }) in
          let six : coded letter (segment_of lists.contracts letter) written ≡ true =
          rw (segment_written code number rows.bytes, eq-eqb letter letter refl, letter_written code number rows.bytes, second_written code number rows.bytes, is_code_lem code.0 code.1 item level form chose, letter_listed) in
          let seven = (trailed_exact written).1 (end_written code number rows.bytes short) in
          let nine = (summed_exact written).1 (sum_written_lem code number rows.bytes short) in
          hold_good (head_rules letter (segment_of lists.contracts letter) written) (five, (six, (seven, (ap takes_length form_is, (nine, (rw (form_is, number_is few) number_fits, tt))))))

      -- one that tells of nothing is a heartbeat
      pub heartbeat_is : subject_of form ≡ Nothing → (message_of lists (segment_letter code.0) written).what ≡ Ok what.Heartbeat
      heartbeat_is none_told =
          let letter : ℕ = segment_letter code.0 in
          ap (λ (m : Message). m.what) (good_head lists letter written head_good)
          ∙ sym (ap (λ (o : Outline). o.what) (outline_told (heartbeat_reads (message_place lists letter written) (λ _. 0) written (message_length (rows_of form)) (sym length_is) [] form form_is none_told).told))

    -- and has no lookup
    pub heartbeat_keys : (lists : Lists) → subject_of form ≡ Nothing → message_compared lists (segment_letter code.0) written ≡ 0
    unfolding message_compared acts_as
    heartbeat_keys lists none_told = rw (form_is, none_told) (rw none_told)

    -- a contract's market type is the byte behind the key, and one that its row takes
    pub market_there : (at : Level) → subject_of form ≡ Of Contract at
        → (is_market_type (cond (is_stamped form) Any Normal) market ≡ true) × (market_in (data_of written) ≡ market)
    unfolding row_text
    market_there at s =
        let offset : ℕ = offset_of (rows_of form) key_row_count in
        let laid : letter_text (is_market_type (cond (is_stamped form) Any Normal)) market ≡ text (take 1 (drop offset rows.bytes)) =
        rw (market_row form at s).0 at (field_written 0 (rows_of form) key (values form) rows_good key_row_count (rows_behind form Contract at s)) in
        let is = letter_is (is_market_type (cond (is_stamped form) Any Normal)) market laid in
        let first : get_or rows.bytes (offset + 0) 0 ≡ market =
        sym (get_or-drop offset rows.bytes 0 0) ∙ sym (get_or-take 1 (drop offset rows.bytes) 0 0 (omega arith)) ∙ ap (λ (l : List ℕ). get_or l 0 0) is.1 in
        let behind : offset + 0 ≡ key_bytes = omega (arith, (key_first form Contract at s).rows_first) in
        (is.0, ap market_in data_is ∙ omega (arith, ap (λ (n : ℕ). get_or rows.bytes n 0) behind, first))

    -- an update
    module _ (tells : TellsOf item form) (key_long : length key ≡ key_bytes_of item) where
      pub key_is : message_key item written ≡ key
      unfolding message_key
      key_is =
          let front = key_of_update form item tells.0 tells.1 key (values form) rows_good in
          ap (take (key_bytes_of item)) data_is ∙ front.stands ∙ take_all (key_bytes_of item) key (omega arith)

      -- acts by its market type
      pub acts_as_lem : (t : Bool) → updates item market ≡ t → acts_as written ≡ cond t (is.Form form) is.PassedOver
      unfolding acts_as
      acts_as_lem t e =
          ap (λ (named : Named). acting named (market_in (data_of written))) form_is
          ∙ acts form item tells (market_in (data_of written)) t (same item tells.0 tells.1 ∙ e)
        where
          same : (item : Item) (at : Level) → subject_of form ≡ Of item at → updates item (market_in (data_of written)) ≡ updates item market
          same Contract at s = ap (updates Contract) (market_there at s).1
          same Pair at s = refl

      -- its lookup is that of the key
      pub keys_are : updates item market ≡ true → (lists : Lists)
          → message_compared lists (segment_letter code.0) written ≡ compared_there item lists key (segment_of lists.contracts (segment_letter code.0))
      unfolding message_compared
      keys_are normal lists = rw (acts_as_lem true normal, tells.1, key_is)

      -- in another market it has none
      pub no_keys : updates item market ≡ false → (lists : Lists) → message_compared lists (segment_letter code.0) written ≡ 0
      unfolding message_compared
      no_keys other lists = rw (acts_as_lem false other)

      module _ (few : number < 2 ^ 32) (lists : Lists) where
        -- it is what it acts as
        contents : is_some (segment_of lists.contracts (segment_letter code.0)) ≡ true → (w : Result What Fault) → w ≡ of_named (acts_as written) number (message_place lists (segment_letter code.0) written)
            → message_of lists (segment_letter code.0) written ≡ record { what = w; length = message_length (rows_of form); cells = zeros_behind (seen_values (rows_of form) (values form)) }
        contents letter_listed w e =
            let letter : ℕ = segment_letter code.0 in
            good_head lists letter written (head_good few lists letter_listed)
            ∙ update_is (message_place lists letter written) (λ _. 0) written (message_length (rows_of form)) (sym length_is) form form_is w (record { cells = seen_values (rows_of form) (values form); verdict = Ok tt })
            (rw data_is (rows_back 0 (rows_of form) key (values form) rows_good)) (rw (number_is few) e)

        -- in another market it is passed over
        pub passed_is : updates item market ≡ false → is_some (segment_of lists.contracts (segment_letter code.0)) ≡ true → (message_of lists (segment_letter code.0) written).what ≡ Ok (what.PassedOver number)
        passed_is other letter_listed = ap (λ (m : Message). m.what) (contents letter_listed (Ok (what.PassedOver number)) (rw (acts_as_lem false other)))

        -- one whose contract or pair is listed updates its record
        module _ (normal : updates item market ≡ true) (place : ℕ) (listed : key_place item lists (segment_letter code.0) key ≡ some place) where
          abbrev message : Message
          message =
              record { what = Ok (what.Update number form place); length = message_length (rows_of form); cells = zeros_behind (seen_values (rows_of form) (values form)) }

          pub message_is : message_of lists (segment_letter code.0) written ≡ message
          message_is =
              contents (ap is_some (key_found item lists (segment_letter code.0) key place listed).1) (Ok (what.Update number form place))
              (rw (acts_as_lem true normal, tells.1, key_is, listed))
