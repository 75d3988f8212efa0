-- The machine answers each call in one way: so what a call answers and leaves is what the machine says, and nothing else.
use Rattle.std.specs.Prelude.{ℕ, suc, ◌*◌, ◌≤◌, ◌<◌, ◌≡◌, refl, Bool, List, [], ◌∷◌, ◌++◌, length, take, drop, Result, Err}
use Rattle.std.proofs.Common.{sym, ap, ap₂, subst, ◌∙◌, true≢false, ⊎_elim, arith, length-take, take-append-drop}
use Rattle.std.proofs.Math.Option.{some}
use Rattle.laws.specs.Choice.{clash}
use Rattle.laws.specs.Order.{order}
use Rattle.laws.specs.RulesLaws.{unlike, broken_some}
use Rattle.files.specs.File.{segments_of, count_at, key_by}
use Rattle.lookup.specs.Lookup.{segment_of}
use Rattle.lookup.specs.LookupLaws.{segment_has, segment_exact, key_exact}
use Rattle.pairs.specs.Lists.{Lists, SoundLists}
use Rattle.sequence.specs.Row.{pairs}
use Rattle.sequence.specs.Runs.{Run, ◌to◌, runs_in}
use Rattle.sequence.specs.RunsCountLaws.{runs_counted}
use Rattle.sequence.specs.RunsLaws.{same_runs}
use Rattle.forms.specs.declared.rows.Level.{Level}
use Rattle.forms.specs.declared.forms.Item.{Item}
use Rattle.forms.specs.declared.forms.Item.TheVariants as item
use Rattle.pairs.specs.Items.{file_of, habit_of}
use Rattle.pairs.specs.ItemsLaws.{sound_headers, segments_of_lem, sound_of}
use Rattle.message.specs.Message.{place_in}
use Rattle.quote.specs.Quote.{values_of}
use Rattle.spread.specs.Spread.{spread_values_of}
use Rattle.state.specs.Answers.{Listed, WrittenOff, run_told, runs_told}
use Rattle.state.specs.declared.answers.Recorded.{Recorded}
use Rattle.message.specs.Good.{KeyListed}
use Rattle.head.specs.GoodHead.{LetterListed}
use Rattle.state.specs.declared.refusal.Refusal.TheVariants.{Memory}
use Rattle.state.specs.declared.refusal.Refusal.{Refusal}
use Rattle.slots.specs.Slots.{Slot, slot as record_slot}
use Rattle.writer.specs.WriterPromisesLaws.{one_written}
use Rattle.starting.specs.StartPromisesLaws.{one_no_spreads}
use Rattle.starting.specs.Start.{start_rules}
use Rattle.starting.specs.StartLaws.{start_exact}
use Rattle.reading.specs.Shown.{QuoteFor}
use Rattle.history.specs.Calls as calls
use Rattle.history.specs.Calls.{Call, Answer}
use Rattle.history.specs.Step.{step}
use Rattle.history.specs.Past.{Event}
use Rattle.history.specs.Histories.{Reached}
use Rattle.history.proofs.HoldsLaws.{reached_holds}
use Rattle.history.specs.Refines.{machine_of}
use Rattle.history.proofs.RefinesLaws.{refines}
use Rattle.state.specs.Memory.{Lent}
use Rattle.history.proofs.JudgesLaws.{one_broken, one_judges}
use Rattle.history.specs.Machine as machine
use Rattle.history.specs.Machine.{Machine, runs_there, NamesExactly, LowestRun, highest, is_missing, standing, written_off, took_batch, AsksFor, answer_for, quote_beside_it, ListsGaps, WritesOff, Reads, Starts, Answers}

-- ---- runs in cells

pairs_long : (ns : List ℕ) → 2 * length (pairs ns) ≤ length ns
pairs_long [] = omega arith
pairs_long (a ∷ []) = omega arith
pairs_long (a ∷ (b ∷ ns)) = omega (arith, pairs_long ns)

-- cells that are whole runs are told by them
pairs_same : (ns ms : List ℕ) → length ns ≡ 2 * length (pairs ns) → length ms ≡ 2 * length (pairs ms) → pairs ns ≡ pairs ms → ns ≡ ms
pairs_same [] [] p q e = refl
pairs_same [] (a ∷ []) p q e = absurd (omega arith)
pairs_same [] (a ∷ (b ∷ ms)) p q e = absurd (clash (cc))
pairs_same (a ∷ []) ms p q e = absurd (omega arith)
pairs_same (a ∷ (b ∷ ns)) [] p q e = absurd (clash (cc))
pairs_same (a ∷ (b ∷ ns)) (c ∷ []) p q e = absurd (omega arith)
pairs_same (a ∷ (b ∷ ns)) (c ∷ (d ∷ ms)) p q e =
    let run : a to b ≡ c to d = cc in
    let first : a ≡ c = ap (λ (r : Run). r.first) run in
    let last : b ≡ d = ap (λ (r : Run). r.last) run in
    let rest : pairs ns ≡ pairs ms = cc in
    ap₂ ◌∷◌ first (ap₂ ◌∷◌ last (pairs_same ns ms (omega arith) (omega arith) rest))

module _ {start top : ℕ} {set : ℕ → Bool} where
  -- as many runs as the set makes
  counted_runs : {up runs : ℕ} {cells : List ℕ} → NamesExactly start top set up runs cells → runs ≡ runs_in set (suc top)
  counted_runs {up} {runs} {cells} n =
      sym n.as_many ∙ runs_counted (suc up) n.ascending (omega arith) ∙ ap (λ (s : ℕ → Bool). runs_in s (suc up)) (λ k x. n.exactly x k)
      ∙ ap (λ (h : ℕ). runs_in set (suc h)) n.highest_taken

  whole : {up runs : ℕ} {cells : List ℕ} → NamesExactly start top set up runs cells → length (take (2 * runs) cells) ≡ 2 * length (runs_there runs cells)
  whole {up} {runs} {cells} n = omega (arith, n.as_many, pairs_long (take (2 * runs) cells), length-take (2 * runs) cells)

  -- one number and one list of cells
  one_naming : {up up' runs runs' : ℕ} {cells cells' : List ℕ} → NamesExactly start top set up runs cells → NamesExactly start top set up' runs' cells'
      → (up ≡ up') × (runs ≡ runs') × (take (2 * runs) cells ≡ take (2 * runs') cells')
  one_naming {runs = runs} {runs' = runs'} {cells = cells} {cells' = cells'} n o =
      let same : runs_there runs cells ≡ runs_there runs' cells' = same_runs (runs_there runs cells) (runs_there runs' cells') n.ascending o.ascending (λ k. n.exactly k ∙ sym (o.exactly k)) in
      (n.highest_taken ∙ sym o.highest_taken, counted_runs n ∙ sym (counted_runs o), pairs_same (take (2 * runs) cells) (take (2 * runs') cells') (whole n) (whole o) same)

-- ---- the lowest run

one_lowest : {held : ℕ → Bool} {a b c d : ℕ} → LowestRun held a b → LowestRun held c d → (a ≡ c) × (b ≡ d)
one_lowest {held} {a} {b} {c} {d} p q =
    let firsts : a ≡ c =
    ⊎_elim (λ (h : a ≤ c).
    ⊎_elim (λ (g : c ≤ a). omega arith) (λ (g : a < c). absurd (true≢false (sym (p.all_held a (omega arith) p.ascending) ∙ q.none_below a g))) (order c a))
    (λ (h : c < a). absurd (true≢false (sym (q.all_held c (omega arith) q.ascending) ∙ p.none_below c h))) (order a c) in
    let lasts : b ≡ d =
    ⊎_elim (λ (h : b ≤ d).
    ⊎_elim (λ (g : d ≤ b). omega arith) (λ (g : b < d). absurd (true≢false (sym (q.all_held (suc b) (omega (arith, p.ascending)) (omega arith)) ∙ p.ends))) (order d b))
    (λ (h : d < b). absurd (true≢false (sym (p.all_held (suc d) (omega (arith, q.ascending)) (omega arith)) ∙ q.ends))) (order b d) in
    (firsts, lasts)

-- ---- the calls

module _ (m : Machine) (letter : ℕ) where
  -- a letter has one segment
  one_segment : {i j : ℕ} → segment_of m.lists.contracts letter ≡ some i → segment_of m.lists.contracts letter ≡ some j → i ≡ j
  one_segment {i} {j} s t = let both : some i ≡ some j = sym s ∙ t in cc

  listed_there : {i : ℕ} → segment_of m.lists.contracts letter ≡ some i → LetterListed m.lists.contracts letter
  listed_there {i} s = let has = segment_has m.lists.contracts letter i s in (i, has.0, has.1)

  one_listing : {cells cells' cells'' : List ℕ} {a b : Listed} → ListsGaps m letter cells a cells' → ListsGaps m letter cells b cells'' → (a ≡ b) × (cells' ≡ cells'')
  one_listing (machine.ListsGaps.no_letter u) (machine.ListsGaps.no_letter v) = (refl, refl)
  one_listing (machine.ListsGaps.no_letter u) (machine.ListsGaps.too_few j t g) = absurd (u (listed_there t))
  one_listing (machine.ListsGaps.no_letter u) (machine.ListsGaps.all_runs j t top runs c g n k) = absurd (u (listed_there t))
  one_listing (machine.ListsGaps.too_few i s h) (machine.ListsGaps.no_letter v) = absurd (v (listed_there s))
  one_listing (machine.ListsGaps.too_few i s h) (machine.ListsGaps.too_few j t g) =
      (ap (λ (n : ℕ). Err (Memory (2 * standing m n))) (one_segment s t), refl)
  one_listing (machine.ListsGaps.too_few i s h) (machine.ListsGaps.all_runs j t top runs c g n k) =
      let same = ap (standing m) (one_segment s t) in absurd (omega (arith, counted_runs n))
  one_listing (machine.ListsGaps.all_runs i s top runs c h n k) (machine.ListsGaps.no_letter v) = absurd (v (listed_there s))
  one_listing (machine.ListsGaps.all_runs i s top runs c h n k) (machine.ListsGaps.too_few j t g) =
      let same = ap (standing m) (one_segment s t) in absurd (omega (arith, counted_runs n))
  one_listing {cells} (machine.ListsGaps.all_runs i s top runs c h n k) (machine.ListsGaps.all_runs j t top' runs' c' g o l) =
      let here = subst (λ (x : ℕ). NamesExactly (m.start x) (highest m x) (is_missing m x) top' runs' c') (sym (one_segment s t)) o in
      let one = one_naming n here in
      let behind : drop (2 * runs) c ≡ drop (2 * runs') c' = k ∙ ap (λ (r : ℕ). drop (2 * r) cells) one.1 ∙ sym l in
      (ap₂ runs_told one.0 one.1, sym (take-append-drop (2 * runs) c) ∙ ap₂ ◌++◌ one.2 behind ∙ take-append-drop (2 * runs') c')

  one_off : {a b : WrittenOff} {m' m'' : Machine} → WritesOff m letter a m' → WritesOff m letter b m'' → (a ≡ b) × (m' ≡ m'')
  one_off (machine.WritesOff.no_letter u) (machine.WritesOff.no_letter v) = (refl, refl)
  one_off (machine.WritesOff.no_letter u) (machine.WritesOff.no_gap j t g) = absurd (u (listed_there t))
  one_off (machine.WritesOff.no_letter u) (machine.WritesOff.the_lowest j t c d g) = absurd (u (listed_there t))
  one_off (machine.WritesOff.no_gap i s h) (machine.WritesOff.no_letter v) = absurd (v (listed_there s))
  one_off (machine.WritesOff.no_gap i s h) (machine.WritesOff.no_gap j t g) = (refl, refl)
  one_off (machine.WritesOff.no_gap i s h) (machine.WritesOff.the_lowest j t c d g) =
      absurd (true≢false (sym (g.all_held c (omega arith) g.ascending) ∙ ap (λ (x : ℕ). is_missing m x c) (sym (one_segment s t)) ∙ h c))
  one_off (machine.WritesOff.the_lowest i s a b h) (machine.WritesOff.no_letter v) = absurd (v (listed_there s))
  one_off (machine.WritesOff.the_lowest i s a b h) (machine.WritesOff.no_gap j t g) =
      absurd (true≢false (sym (h.all_held a (omega arith) h.ascending) ∙ ap (λ (x : ℕ). is_missing m x a) (one_segment s t) ∙ g a))
  one_off (machine.WritesOff.the_lowest i s a b h) (machine.WritesOff.the_lowest j t c d g) =
      let here = subst (λ (x : ℕ). LowestRun (is_missing m x) c d) (sym (one_segment s t)) g in
      let one = one_lowest h here in
      let firsts = one.0 in
      let lasts = one.1 in
      let same = one_segment s t in
      (ap₂ run_told firsts lasts, (λ k. written_off (same k) (firsts k to lasts k) m))

  -- of sound lists a key has one place
  key_there : SoundLists m.lists → {key : List ℕ} (item : Item) (i place : ℕ) → (i < segments_of m.lists.contracts) × (place < count_at (file_of item m.lists) i)
      → key_by (habit_of item) (file_of item m.lists) i place ≡ key → place_in item m.lists i key ≡ some place
  key_there sound {key} item i place there is =
      (key_exact (file_of item m.lists) i key (sound_of m.lists sound item) (rw (segments_of_lem m.lists (sound_headers sound) item) there.0) place).1 (there.1, is)

  -- of sound lists a key and a level have one slot
  one_slot : SoundLists m.lists → {item : Item} {key : List ℕ} {level : Level} (a b : Slot) → AsksFor m.lists item letter key level a → AsksFor m.lists item letter key level b → a ≡ b
  one_slot sound {item} {key} {level} (record_slot x i place k) (record_slot y j spot l) p q =
      let i_is = (segment_exact m.lists.contracts sound.contracts_sound.header letter i).1 (p.listed.0, p.of_letter) in
      let j_is = (segment_exact m.lists.contracts sound.contracts_sound.header letter j).1 (q.listed.0, q.of_letter) in
      let same : i ≡ j = one_segment i_is j_is in
      let at = key_there sound x i place p.listed p.of_key in
      let spot_at = key_there sound y j spot q.listed q.of_key in
      let items : x ≡ y = p.of_item ∙ sym q.of_item in
      let here : place_in x m.lists i key ≡ place_in y m.lists j key = λ n. place_in (items n) m.lists (same n) key in
      let both : some place ≡ some spot = sym at ∙ here ∙ spot_at in
      let places : place ≡ spot = cc in
      let levels : k ≡ l = p.of_level ∙ sym q.of_level in
      λ n. record_slot (items n) (same n) (places n) (levels n)

  slot_there_lem : {item : Item} {key : List ℕ} {level : Level} (slot : Slot) → AsksFor m.lists item letter key level slot → LetterListed m.lists.contracts letter × KeyListed item m.lists letter key
  slot_there_lem {item} {key} (record_slot x i place k) p =
      ((i, p.listed.0, p.of_letter), subst (λ (y : Item). KeyListed y m.lists letter key) p.of_item (i, place, p.listed.0, p.of_letter, p.listed.1, p.of_key))

  one_reading : SoundLists m.lists → {item : Item} {key : List ℕ} {level : Level} {a b : Recorded} {p q : QuoteFor item} → Reads m item letter key level a p → Reads m item letter key level b q → (a ≡ b) × (p ≡ q)
  one_reading sound (machine.Reads.no_letter u) (machine.Reads.no_letter v) = (refl, refl)
  one_reading sound (machine.Reads.no_letter u) (machine.Reads.no_key l v) = absurd (u l)
  one_reading sound (machine.Reads.no_letter u) (machine.Reads.the_newest slot q) = absurd (u (slot_there_lem slot q).0)
  one_reading sound (machine.Reads.no_key l u) (machine.Reads.no_letter v) = absurd (v l)
  one_reading sound (machine.Reads.no_key l u) (machine.Reads.no_key k v) = (refl, refl)
  one_reading sound (machine.Reads.no_key l u) (machine.Reads.the_newest slot q) = absurd (u (slot_there_lem slot q).1)
  one_reading sound (machine.Reads.the_newest slot p) (machine.Reads.no_letter v) = absurd (v (slot_there_lem slot p).0)
  one_reading sound (machine.Reads.the_newest slot p) (machine.Reads.no_key l v) = absurd (v (slot_there_lem slot p).1)
  one_reading sound {item} {level = level} (machine.Reads.the_newest slot p) (machine.Reads.the_newest other q) =
      let same = one_slot sound slot other p q in
      (ap (λ (s : Slot). answer_for (m.newest s)) same, ap (λ (s : Slot). quote_beside_it item (m.newest s)) same)

module _ (rows records : ℕ) (m : Machine) where
  one_start : {lists : Lists} {starts : List ℕ} {a b : Result (Unit {0}) Refusal} {m' m'' : Machine} → Starts rows records m lists starts a m' → Starts rows records m lists starts b m'' → (a ≡ b) × (m' ≡ m'')
  one_start (machine.Starts.anew g) (machine.Starts.anew h) = (refl, refl)
  one_start {lists} {starts} (machine.Starts.anew g) (machine.Starts.not_started r b) =
      absurd (unlike (sym (broken_some (start_rules lists starts rows records) r b) ∙ (start_exact lists starts rows records).1 g))
  one_start {lists} {starts} (machine.Starts.not_started r b) (machine.Starts.anew g) =
      absurd (unlike (sym (broken_some (start_rules lists starts rows records) r b) ∙ (start_exact lists starts rows records).1 g))
  one_start {lists} {starts} (machine.Starts.not_started r b) (machine.Starts.not_started s c) =
      (ap Err (one_broken (start_rules lists starts rows records) r s b c), refl)

  -- of sound lists
  pub one_answer : SoundLists m.lists → {c : Call} {a b : Answer} {m' m'' : Machine} → Answers rows records m c a m' → Answers rows records m c b m'' → (a ≡ b) × (m' ≡ m'')
  one_answer sound (machine.Answers.starts p) (machine.Answers.starts q) = let one = one_start p q in (ap calls.started one.0, one.1)
  one_answer sound (machine.Answers.judges {batch} {a} p) (machine.Answers.judges {a = b} q) = (ap calls.judged (one_judges m batch a b p q), refl)
  one_answer sound (machine.Answers.takes {batch} {a} p) (machine.Answers.takes {a = b} q) =
      let one = one_judges m batch a b p q in (ap calls.took one, ap (took_batch m batch) one)
  one_answer sound (machine.Answers.lists_gaps {letter} p) (machine.Answers.lists_gaps q) = let one = one_listing m letter p q in (ap₂ calls.listed one.0 one.1, refl)
  one_answer sound (machine.Answers.writes_off {letter} p) (machine.Answers.writes_off q) = let one = one_off m letter p q in (ap calls.wrote_off one.0, one.1)
  one_answer sound (machine.Answers.reads {item} {letter} p) (machine.Answers.reads q) = let one = one_reading m letter sound p q in (ap₂ (calls.read item) one.0 one.1, refl)
  one_answer sound (machine.Answers.writes {code} {level} {number} {key} {out} {quote = quote} {a} p) (machine.Answers.writes {a = b} q) =
      let one = one_written item.Contract code level number key (λ form. values_of form quote) out a b p q in (ap₂ calls.wrote one.0 one.1, refl)
  one_answer sound (machine.Answers.writes_spread {code} {level} {number} {key} {out} {quote = quote} {a} p) (machine.Answers.writes_spread {a = b} q) =
      let one = one_written item.Pair code level number key (λ form. spread_values_of form quote) out a b p q in (ap₂ calls.wrote one.0 one.1, refl)
  one_answer sound (machine.Answers.no_spreads_lem {a = a} p) (machine.Answers.no_spreads_lem {a = b} q) = let one = one_no_spreads a b p q in (ap₂ calls.wrote one.0 one.1, refl)

-- after every history a call answers what the machine says, and nothing else is said of it
pub only_so : {starts : List ℕ} {lent : Lent} {past : List Event} → Reached starts lent past → (c : Call) (a : Answer) (m : Machine)
    → Answers (length lent.rows) (length lent.records) (machine_of lent.lists starts past) c a m → (step lent c).answer ≡ a
only_so {starts} {lent} {past} r c a m said =
    (one_answer (length lent.rows) (length lent.records) (machine_of lent.lists starts past) (reached_holds r).lists_sound (refines r c).answers said).0
