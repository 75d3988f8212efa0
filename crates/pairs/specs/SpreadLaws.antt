-- Laws of spread lists: the checks say exactly what the rules say.
use Prim.Native.Nat.{ℕ, ◌<◌}
use Rattle.std.specs.Prelude.{◌≡◌, refl, ◌↔◌, true, ◌&&◌, List, eqb}
use Rattle.std.proofs.Common.{sym, true≢false}
use Rattle.std.proofs.Math.Bool.{Bool}
use Rattle.std.proofs.Math.Option.{Option, none, some}
use borrow.Author.Tests.{eqb-true, eq-eqb}
use Rattle.laws.specs.Tests.{both, conj, all_three}
use Rattle.files.specs.Below.{all_below}
use Rattle.files.specs.BelowLaws.{each_passes, all_pass}
use Rattle.files.specs.File.{segments_of, letter_at, count_at}
use Rattle.files.specs.Habits.{contracts}
use Rattle.pairs.specs.Habits.{pairs}
use Rattle.contracts.specs.HeaderLaws.{header_exact}
use Rattle.lookup.specs.Lookup.{place_in}
use Rattle.lookup.specs.LookupLaws.{key_at_place, key_exact}
use Rattle.contracts.specs.Sound.{SoundList}
use Rattle.contracts.specs.SoundLaws.{sound_exact}
use Rattle.contracts.specs.SoundTests.{body_sound, header_sound_by, sound_by}
use Rattle.pairs.specs.Spreads.{SpreadHeader, SoundSpreads, ListedIn, pair_at, first_half, second_half}
use Rattle.pairs.specs.SpreadTests.{same_letter, is_found, pair_listed, pairs_listed, spread_header_sound, spreads_sound}

module _ (list spreads : List ℕ) where
  header_rules : spread_header_sound list spreads ≡ true → SpreadHeader list spreads
  unfolding spread_header_sound
  header_rules e =
      let h = all_three (header_sound_by pairs spreads) (eqb (segments_of spreads) (segments_of list)) (all_below (segments_of spreads) (same_letter list spreads)) e in
      record {
        header = (header_exact spreads).0 h.0;
        segments_same = eqb-true (segments_of spreads) (segments_of list) h.1;
        letters_same = λ i l. eqb-true (letter_at spreads i) (letter_at list i) (each_passes (same_letter list spreads) (segments_of spreads) h.2 i l);
      }

  header_holds : SpreadHeader list spreads → spread_header_sound list spreads ≡ true
  unfolding spread_header_sound
  header_holds h =
      rw (
        (header_exact spreads).1 h.header,
        eq-eqb (segments_of spreads) (segments_of list) h.segments_same,
        all_pass (same_letter list spreads) (segments_of spreads) (λ i l. eq-eqb (letter_at spreads i) (letter_at list i) (h.letters_same i l)),
      )

  -- 16 after start: the short check passes exactly when its rules hold
  pub spread_header_exact : spread_header_sound list spreads ≡ true ↔ SpreadHeader list spreads
  spread_header_exact = (header_rules, header_holds)

  -- a spread list that passes the full check passes the short one
  pub spreads_header : spreads_sound list spreads ≡ true → spread_header_sound list spreads ≡ true
  unfolding spreads_sound
  spreads_header e =
      (both (spread_header_sound list spreads) (all_below (segments_of spreads) (body_sound pairs spreads) && all_below (segments_of spreads) (pairs_listed list spreads)) e).0

-- what is found is listed, whatever the list is; in a sound list what is listed is found
module _ (list : List ℕ) (i : ℕ) (key : List ℕ) where
  found_listed : is_found (place_in list i key) ≡ true → ListedIn list i key
  found_listed e = go (place_in list i key) refl e
    where
      go : (o : Option ℕ) → place_in list i key ≡ o → is_found o ≡ true → ListedIn list i key
      go none f e = absurd (true≢false (sym e))
      go (some j) f e = let h = key_at_place contracts list i key j f in (j, h.0, h.1)

  listed_found : SoundList list → i < segments_of list → ListedIn list i key → is_found (place_in list i key) ≡ true
  listed_found s l h = rw ((key_exact list i key s l h.0).1 (h.1, h.2))

module _ (list spreads : List ℕ) where
  sound_rules : spreads_sound list spreads ≡ true → SoundSpreads list spreads
  unfolding spreads_sound pairs_listed sound_by
  sound_rules e =
      let n : ℕ = segments_of spreads in
      let bodies : Bool = all_below n (body_sound pairs spreads) in
      let h = both (spread_header_sound list spreads) (bodies && all_below n (pairs_listed list spreads)) e in
      let p = both bodies (all_below n (pairs_listed list spreads)) h.1 in
      let header = (spread_header_exact list spreads).0 h.0 in
      let halves : (i k : ℕ) → i < n → k < count_at spreads i → (is_found (place_in list i (first_half (pair_at spreads i k))) ≡ true) × (is_found (place_in list i (second_half (pair_at spreads i k))) ≡ true) = λ i k l m.
      both (is_found (place_in list i (first_half (pair_at spreads i k)))) (is_found (place_in list i (second_half (pair_at spreads i k))))
      (each_passes (pair_listed list spreads i) (count_at spreads i) (each_passes (pairs_listed list spreads) n p.1 i l) k m) in
      record {
        header = header;
        pairs_sound = (sound_exact spreads).0 (conj (header_sound_by pairs spreads) bodies ((header_exact spreads).1 header.header) p.0);
        first_listed = λ i k l m. found_listed list i (first_half (pair_at spreads i k)) (halves i k l m).0;
        second_listed = λ i k l m. found_listed list i (second_half (pair_at spreads i k)) (halves i k l m).1;
      }

  sound_holds : SoundList list → SoundSpreads list spreads → spreads_sound list spreads ≡ true
  unfolding spreads_sound pairs_listed sound_by
  sound_holds s h =
      let n : ℕ = segments_of spreads in
      let bodies : Bool = all_below n (body_sound pairs spreads) in
      let inside : (i : ℕ) → i < n → i < segments_of list = λ i l. rw h.header.segments_same at l in
      rw (
        (spread_header_exact list spreads).1 h.header,
        (both (header_sound_by pairs spreads) bodies ((sound_exact spreads).1 h.pairs_sound)).1,
        all_pass (pairs_listed list spreads) n (λ i l.
            all_pass (pair_listed list spreads i) (count_at spreads i) (λ k m.
            conj (is_found (place_in list i (first_half (pair_at spreads i k)))) (is_found (place_in list i (second_half (pair_at spreads i k))))
            (listed_found list i (first_half (pair_at spreads i k)) s (inside i l) (h.first_listed i k l m))
            (listed_found list i (second_half (pair_at spreads i k)) s (inside i l) (h.second_listed i k l m)))),
      )

  -- 16 at start, behind a sound contract list: the full check passes exactly when its rules hold
  pub spreads_exact : SoundList list → spreads_sound list spreads ≡ true ↔ SoundSpreads list spreads
  spreads_exact s = (sound_rules, sound_holds s)
