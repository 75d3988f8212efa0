-- Demand 3, "Two boxes that took the same messages agree".
use Rattle.std.specs.Prelude.{ℕ, ◌≡◌, Bool, not, ◌&&◌, ◌↔◌, length}
use Rattle.std.proofs.Math.Path.{refl, sym, ap}
use Rattle.std.proofs.Common.{ap₂, subst, ◌∙◌}
use mathlib.Core.List.{List, [], ◌∷◌, ◌++◌, Memᴰ}
use Rattle.std.proofs.Math.Option.{Option, none, some}
use Rattle.std.proofs.Math.Dec.{leb}
use Rattle.laws.specs.Rules.{first_broken}
use Rattle.laws.specs.RulesLaws.{front_holds, none_hold, front_broken}
use Rattle.laws.specs.Choice.{clash}
use Rattle.pairs.specs.Lists.{Lists}
use Rattle.lookup.specs.Lookup.{segment_of}
use Rattle.lookup.specs.LookupLaws.{segment_has}
use Rattle.forms.specs.declared.rows.Level.{Level}
use Rattle.forms.specs.declared.forms.Item.{Item}
use Rattle.sequence.specs.Runs.{missing}
use Rattle.sequence.specs.Gaps.{Gaps, wanted}
use Rattle.sequence.specs.GapsLaws.{same_gaps}
use Rattle.sequence.specs.Row.{gaps_of}
use Rattle.message.specs.Message.{Message, place_in}
use Rattle.state.specs.declared.refusal.Refusal.{Refusal}
use Rattle.state.specs.declared.refusal.Refusal.TheVariants.{Code, Contract, Memory}
use Rattle.state.specs.declared.answers.Recorded.{Recorded}
use Rattle.state.specs.Memory.{Lent, lends, gap_row_in}
use Rattle.slots.specs.Slots.{Slot, slot as record_slot}
use Rattle.forms.specs.Forms.{session_of}
use Rattle.state.specs.AnswersLaws.{listed_told}
use Rattle.listing.specs.ListPromises.{ListedRuns}
use Rattle.reading.specs.ReadsLaws.{one_read}
use Rattle.reading.specs.ReadsLaws.{record_refused}
use Rattle.listing.specs.ListActs.{list_values, runs_put}
use Rattle.listing.specs.ListRules.{gaps_of_letter, list_rules}
use Rattle.reading.specs.ReadRules.{record_rules}
use Rattle.state.specs.Answers.{left_by, answered, Listed}
use Rattle.state.specs.Refusals.{Rule}
use Rattle.reading.specs.RecordLaws.{segment_broken, key_broken}
use Rattle.starting.specs.Start.{start_of}
use Rattle.state.specs.State.{segment_rules}
use Rattle.state.specs.StateLaws.{good_unrefused, letter_broken}
use Rattle.history.specs.Past.{Event, wrote_off_in, taken_of}
use Rattle.history.specs.Segment.{Fits}
use Rattle.reading.specs.Shown.{QuoteFor, shown, blank_for, ReadsItem}
use Rattle.history.specs.Updates.{item_in}
use Rattle.history.specs.Histories.{Reached}
use Rattle.history.proofs.HoldsLaws.{reached_holds}
use Rattle.history.proofs.ListingLaws.{fits_here, segment_good}
use Rattle.history.specs.Exactly.{FoundNewest, ReadsNewest, no_record, a_record, SameTaken}
use Rattle.history.proofs.RecordLaws.{reads_key}
use Rattle.history.proofs.TakenLaws.{taken_apart, same_held, same_highest, same_newest}
use Rattle.history.specs.Machine.{held, highest_of, sequence_number, form_sent}

unlike : {m : Message} → some m ≡ none → ⊥
unlike e = clash (cc)

same_some : {m k : Message} → some m ≡ some k → m ≡ k
same_some e = cc

module _ {lists : Lists} {rows records rows' records' starts starts' : List ℕ} {past past' : List Event}
    (r : Reached starts (lends lists rows records) past) (r' : Reached starts' (lends lists rows' records') past') (same : SameTaken lists starts past lists starts' past') where
  abbrev lent : Lent
  lent = lends lists rows records

  abbrev lent' : Lent
  lent' = lends lists rows' records'

  -- ---- a listed segment

  module _ (letter i : ℕ) (s : segment_of lists.contracts letter ≡ some i) where
    abbrev start : ℕ
    start = start_of starts i

    starts_are : start_of starts i ≡ start_of starts' i
    starts_are = same.same_starts i (segment_has lists.contracts letter i s).0

    taken_same : (m : Message) → Memᴰ m (taken_of i start past) ↔ Memᴰ m (taken_of i start past')
    taken_same m =
        subst (λ (n : ℕ). Memᴰ m (taken_of i start past) ↔ Memᴰ m (taken_of i n past')) (sym starts_are)
        (same.same_messages i (segment_has lists.contracts letter i s).0 m)

    abbrev g : Gaps
    g = gaps_of_letter lent letter

    abbrev g' : Gaps
    g' = gaps_of_letter lent' letter

    fits : Fits start (taken_of i start past) (wrote_off_in i past) g
    fits = fits_here r letter i s

    fits' : Fits start (taken_of i start past') (wrote_off_in i past') g'
    fits' =
        subst (λ (n : ℕ). Fits n (taken_of i n past') (wrote_off_in i past') g') (sym starts_are) (fits_here r' letter i s)

    highest_same : g.highest ≡ g'.highest
    highest_same = fits.highest_is ∙ same_highest (taken_of i start past) (taken_of i start past') taken_same start ∙ sym fits'.highest_is

    missing_same : (n : ℕ) → missing g.runs n ≡ missing g'.runs n
    missing_same n =
        let high = same_highest (taken_of i start past) (taken_of i start past') taken_same start in
        let own = same_held (taken_of i start past) (taken_of i start past') taken_same n in
        let off : wrote_off_in i past n ≡ wrote_off_in i past' n = same.none_off i n ∙ sym (same.none_off' i n) in
        fits.missing_is n
        ∙ ap (λ (h : ℕ). leb start n && leb n h && not (held (taken_of i start past) n) && not (wrote_off_in i past n)) high
        ∙ ap₂ (λ (a b : Bool). leb start n && leb n (highest_of start (taken_of i start past')) && not a && not b) own off
        ∙ sym (fits'.missing_is n)

    runs_same : g.runs ≡ g'.runs
    runs_same = same_gaps fits.sound fits'.sound missing_same

    pub gaps_same : g ≡ g'
    gaps_same =
        let begin : g.start ≡ g'.start = fits.start_is ∙ sym fits'.start_is in
        λ k. record { start = begin k; highest = highest_same k; runs = runs_same k }

    readings_same : (slot : Slot) (a b : Recorded) (x y : QuoteFor (item_in slot))
        → ReadsNewest slot (taken_of i start past) a x → ReadsNewest slot (taken_of i (start_of starts' i) past') b y → (a ≡ b) × (x ≡ y)
    readings_same slot a b x y p q = go p (subst (λ (n : ℕ). ReadsNewest slot (taken_of i n past') b y) (sym starts_are) q)
      where
        one : (m k : Option Message) → FoundNewest slot (taken_of i start past) m → FoundNewest slot (taken_of i start past') k → m ≡ k
        one = same_newest (taken_of i start past) (taken_of i start past') taken_same (taken_apart i start past) slot

        go : ReadsNewest slot (taken_of i start past) a x → ReadsNewest slot (taken_of i start past') b y → (a ≡ b) × (x ≡ y)
        go (no_record u e f) (no_record v g h) = (e ∙ sym g, f ∙ sym h)
        go (no_record u e f) (a_record m v g h) = absurd (unlike (sym (one none (some m) u v)))
        go (a_record m u e f) (no_record v g h) = absurd (unlike (one (some m) none u v))
        go (a_record m u e f) (a_record k v g h) =
            let is : m ≡ k = same_some (one (some m) (some k) u v) in
            (e ∙ ap (λ (n : Message). Recorded.Record (sequence_number n) (session_of (form_sent n))) is ∙ sym g, f ∙ ap (λ (n : Message). shown (item_in slot) (form_sent n) n.cells) is ∙ sym h)

  -- ---- the letter is refused in both, or in neither

  pub rules_same : (letter : ℕ) → first_broken (segment_rules lent letter) ≡ first_broken (segment_rules lent' letter)
  rules_same letter = go (segment_of lists.contracts letter) refl
    where
      go : (o : Option ℕ) → segment_of lists.contracts letter ≡ o → first_broken (segment_rules lent letter) ≡ first_broken (segment_rules lent' letter)
      go none e =
          letter_broken lent letter (good_unrefused lent (reached_holds r).state) e
          ∙ sym (letter_broken lent' letter (good_unrefused lent' (reached_holds r').state) e)
      go (some i) e = segment_good r letter i e ∙ sym (segment_good r' letter i e)

  pub gaps_agree : (letter : ℕ) → gaps_of_letter lent letter ≡ gaps_of_letter lent' letter
  unfolding gaps_of_letter
  gaps_agree letter = go (segment_of lists.contracts letter) refl
    where
      go : (o : Option ℕ) → segment_of lists.contracts letter ≡ o → gaps_of_letter lent letter ≡ gaps_of_letter lent' letter
      go none e = ap (λ (o : Option ℕ). gaps_of (gap_row_in rows o)) e ∙ sym (ap (λ (o : Option ℕ). gaps_of (gap_row_in rows' o)) e)
      go (some i) e = gaps_same letter i e

  -- rules in front that answer the same in both, and others behind them
  pub front_same : (front front' rules : List Rule) → first_broken front ≡ first_broken front' → first_broken (front ++ rules) ≡ first_broken (front' ++ rules)
  front_same front front' rules e = go (first_broken front) refl
    where
      go : (o : Option Refusal) → first_broken front ≡ o → first_broken (front ++ rules) ≡ first_broken (front' ++ rules)
      go none f = front_holds front rules (none_hold front f) ∙ sym (front_holds front' rules (none_hold front' (sym e ∙ f)))
      go (some refusal) f = front_broken front rules refusal f ∙ sym (front_broken front' rules refusal (sym e ∙ f))

  listing_same : (letter cells : ℕ) → first_broken (list_rules lent letter cells) ≡ first_broken (list_rules lent' letter cells)
  unfolding list_rules
  listing_same letter cells =
      ap (λ (g : Gaps). first_broken (segment_rules lent letter ++ (record { holds = leb (wanted g.runs) cells; refusal = Memory (wanted g.runs) } ∷ []))) (gaps_agree letter)
      ∙ front_same (segment_rules lent letter) (segment_rules lent' letter) _ (rules_same letter)

  -- ---- "Two boxes that took the same messages agree": in gap lists

  pub listings_agree : (letter : ℕ) (cells : List ℕ) (a b : Listed) (cells' cells'' : List ℕ)
      → ListedRuns lent letter cells a cells' → ListedRuns lent' letter cells b cells'' → (a ≡ b) × (cells' ≡ cells'')
  listings_agree letter cells a b cells' cells'' p q =
      let rules = listing_same letter (length cells) in
      let gaps = gaps_agree letter in (
        listed_told a b (p.answers ∙ ap₂ (λ (o : Option Refusal) (g : Gaps). answered o (list_values g)) rules gaps ∙ sym q.answers),
        p.cells_left ∙ ap₂ (λ (o : Option Refusal) (g : Gaps). left_by o cells (runs_put g cells)) rules gaps ∙ sym q.cells_left,
      )

  -- ---- and in records

  module _ (item : Item) (letter : ℕ) (key : List ℕ) where
    record_rules_same : first_broken (record_rules item lent letter key) ≡ first_broken (record_rules item lent' letter key)
    unfolding record_rules
    record_rules_same = front_same (segment_rules lent letter) (segment_rules lent' letter) _ (rules_same letter)

    module _ (level : Level) (a b : Recorded) (x y : QuoteFor item) (p : ReadsItem item lent letter key level a x) (q : ReadsItem item lent' letter key level b y) where
      refused_same : (refusal : Refusal) → first_broken (record_rules item lent letter key) ≡ some refusal → (a ≡ b) × (x ≡ y)
      refused_same refusal e =
          let here = one_read a (Recorded.Refused refusal) p (record_refused (shown item) (blank_for item) item lent letter key level refusal e) in
          let there = one_read b (Recorded.Refused refusal) q (record_refused (shown item) (blank_for item) item lent' letter key level refusal (sym record_rules_same ∙ e)) in
          (here.0 ∙ sym there.0, here.1 ∙ sym there.1)

      pub records_agree : (a ≡ b) × (x ≡ y)
      records_agree = go (segment_of lists.contracts letter) refl
        where
          there : (i : ℕ) → segment_of lists.contracts letter ≡ some i → (o : Option ℕ) → place_in item lists i key ≡ o → (a ≡ b) × (x ≡ y)
          there i s none f = refused_same (Contract 0) (key_broken item lent letter key (segment_good r letter i s) i s f)
          there i s (some place) f =
              readings_same letter i s (record_slot item i place level) a b x y (reads_key r item letter i s key place f level a x p) (reads_key r' item letter i s key place f level b y q)

          go : (o : Option ℕ) → segment_of lists.contracts letter ≡ o → (a ≡ b) × (x ≡ y)
          go none e =
              refused_same (Code 0)
              (segment_broken item lent letter key (Code 0) (letter_broken lent letter (good_unrefused lent (reached_holds r).state) e))
          go (some i) e = there i e (place_in item lists i key) refl
