-- The rows of its form, and then its key.
-- what is known once the rows are read
use Rattle.std.specs.Prelude.{Result}
use Rattle.layout.specs.declared.read.BadRow.{BadRow}
use Rattle.layout.specs.declared.read.BadRow.TheVariants as bad_row
use Rattle.layout.specs.Answers.{Verdict}
use Rattle.std.proofs.Common.{ℕ, ◌-◌, ◌≡◌, subst, List, arith, take, drop, refl, false, Err}
use Rattle.std.proofs.Math.Option.{Option}
use mathlib.Core.Path.{subst⁻¹}
use Rattle.pairs.specs.Lists.{lists}
use Rattle.message.specs.declared.body.Outline.{Outline}
use Rattle.message.specs.declared.body.What.{What}
use Rattle.head.specs.declared.head.Fault.{Fault}
use Rattle.head.specs.Faults.{row_fault}
use Rattle.lookup.specs.Answers.{place_of}
use Rattle.forms.specs.declared.forms.Form.{Form}
use Rattle.forms.specs.declared.forms.Item.{Item}
use Rattle.forms.specs.declared.forms.Named.TheVariants as is
use Rattle.forms.specs.Sizes.{bare_length}
use Rattle.head.specs.Fields.{length_of, number_of, data_of, form_in}
use Rattle.message.specs.Compared.{key_sought, keys_in, keys_there, compared_as}
use Rattle.message.specs.Message.{message_key, places_in, places_there, market_in, acting, acts_as, of_named}
use Rattle.message.specs.Reads.{rows_read, of_verdict, bare, contents_by, Outlines, ReadsMessage}
use Rattle.message.specs.MessageLaws.{update_reads}
use Rattle.message.proofs.body.update.Goals.{After-read_update}
use Rattle.message.proofs.body.update.Goals as goal

module _ (c : After-read_update) where
  abbrev bytes : List ℕ
  bytes = c.args.bytes.now

  abbrev cells : List ℕ
  cells = c.args.cells.now

  abbrev whole : ℕ
  whole = c.args.whole

  abbrev form : Form
  form = c.args.form

  abbrev item : Item
  item = c.args.item

  -- the place of its key
  abbrev found : Item → Option ℕ
  found = places_there (lists c.args.there.now.list.now c.args.there.now.spreads.now) bytes (place_of c.args.there.now.segment)

  -- the keys compared with it
  abbrev keys : Item → ℕ
  keys = keys_there (lists c.args.there.now.list.now c.args.there.now.spreads.now) bytes (place_of c.args.there.now.segment)

  whole_is : whole ≡ length_of bytes
  whole_is = c.requires.1

  data_is : take (whole - 3 - 8) (drop 8 bytes) ≡ data_of bytes
  unfolding data_of
  data_is =
      let e : whole - 3 - 8 ≡ length_of bytes - bare_length = omega (arith, whole_is) in
      rw e

  ended : (v : Verdict) (answer : Outline) → c.read_update.result ≡ v → Outlines (bare (of_verdict v (of_named (acts_as bytes) (number_of bytes) found)) whole) (compared_as (acts_as bytes) keys) answer
      → ReadsMessage (contents_by found bytes) (compared_as (acts_as bytes) keys) (rows_read bytes).cells cells answer c.read_update.new.cells
  ended v answer e o =
      update_reads found keys bytes whole whole_is form c.requires.2 c.read_update.result v e cells _
      (rw data_is at c.read_update.ensures) answer o

  -- what acts by the data acts by the message
  good-is : {r : Outline} → Outlines (bare (of_named (acting (is.Form form) (market_in (take (whole - 3 - 8) (drop 8 bytes)))) c.number_of-number.result (places_in (lists c.args.there.now.list.now c.args.there.now.spreads.now) (take (whole - 3 - 8) (drop 8 bytes)) (place_of c.args.there.now.segment))) whole)
      (compared_as (acting (is.Form form) (market_in (take (whole - 3 - 8) (drop 8 bytes)))) (keys_in (lists c.args.there.now.list.now c.args.there.now.spreads.now) (take (whole - 3 - 8) (drop 8 bytes)) (place_of c.args.there.now.segment))) r
      → Outlines (bare (of_named (acts_as bytes) (number_of bytes) found) whole) (compared_as (acts_as bytes) keys) r
  unfolding message_key acts_as
  good-is {r} o =
      let place : List ℕ → Item → Option ℕ = λ d. places_in (lists c.args.there.now.list.now c.args.there.now.spreads.now) d (place_of c.args.there.now.segment) in
      let steps : List ℕ → Item → ℕ = λ d. keys_in (lists c.args.there.now.list.now c.args.there.now.spreads.now) d (place_of c.args.there.now.segment) in
      let named : form_in bytes ≡ is.Form form = c.requires.2 in
      rw named
      (subst (λ (n : ℕ). Outlines (bare (of_named (acting (is.Form form) (market_in (data_of bytes))) n (place (data_of bytes))) whole) (compared_as (acting (is.Form form) (market_in (data_of bytes))) (steps (data_of bytes))) r) c.number_of-number.ensures
      (subst (λ (d : List ℕ). Outlines (bare (of_named (acting (is.Form form) (market_in d)) c.number_of-number.result (place d)) whole) (compared_as (acting (is.Form form) (market_in d)) (steps d)) r) data_is o))

  -- a fault is told with the length that its field has
  at_length : {w : Result What Fault} {compared : ℕ} {r : Outline} → Outlines (bare w (length_of bytes)) compared r → Outlines (bare w whole) compared r
  at_length {w} {compared} {r} o = subst⁻¹ (λ (n : ℕ). Outlines (bare w n) compared r) whole_is o

pub returns-in-Ok : goal.returns-in-Ok
returns-in-Ok c =
    let d = (goal.at.returns-in-Ok c).After-read_update in
    ended d _ _ c.in-Ok.is (good-is d c.acted.ensures)

row_early : (bad : BadRow) → key_sought (row_fault bad) ≡ false
row_early (bad_row.Field row) = refl
row_early (bad_row.Range row) = refl

pub bad-requires : goal.bad-requires
bad-requires c = rw c.from.ensures (row_early c.in-Err.bad_row)

row_verdict : (bad : BadRow) (good : Result What Fault) → of_verdict (Err bad) good ≡ Err (row_fault bad)
row_verdict (bad_row.Field row) good = refl
row_verdict (bad_row.Range row) good = refl

pub returns-in-Err : goal.returns-in-Err
returns-in-Err c =
    let d = (goal.at.returns-in-Err c).After-read_update in
    let bad = c.in-Err.bad_row in
    let good : Result What Fault = of_named (acts_as (bytes d)) (number_of (bytes d)) (found d) in
    ended d (Err bad) _ c.in-Err.is (rw (row_verdict bad good) (at_length d (rw c.from.ensures at (c.bad.ensures (compared_as (acts_as (bytes d)) (keys d))))))
