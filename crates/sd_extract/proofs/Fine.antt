-- What typing gives: assigned variables are kept apart from everything that stays.
use Rattle.std.proofs.Common.{◌≡◌, ℕ, suc, ◌+◌, ◌≤◌, ◌<◌, List, [], ◌∷◌, ◌++◌, Option, Some, None, sym, ◌∙◌, ap, subst, length, ⊎_elim, arith}
use Rattle.std.specs.Prelude.{◌⊎◌, option_map, unwrap_or}
use Rattle.std.proofs.lemmas.List.{length-map}
use Rattle.sd_extract.proofs.SourceWords.{Text, names_of}
use Rattle.sd_extract.proofs.CoreWords.{Spot, Slot, Global, CoreStmt, slots_from, Names, place_in, either_place, place_of, Source, state_of, names_at, frame_at, index_in, spot_of}
pub use Rattle.sd_extract.specs.Laws.{Among, IsLocal, IsModified, MayAssign}
use Rattle.sd_extract.proofs.Writes.{Apart, Misses, SetsAt}
use Rattle.sd_extract.proofs.Agree.{Room, CanSet}
use Rattle.sd_extract.proofs.CallsAgree.{NotIn, Outside, slots_length}
use Rattle.sd_extract.proofs.LoopCalls.{OnlySlots, outside}
use Rattle.sd_extract.proofs.CodeNames.{index_is, place_in-slots, place_in-globals, place_in-append}
use Rattle.sd_extract.proofs.SlotsApart.{apart_below, apart_above, apart_globals, apart_append, apart_set_all, entry_outside, known}

pub places_of : (S : Source) (a c : ℕ) (x : Text) → place_in (names_at S a c).local_names (names_at S a c).locals x ≡ either_place (option_map (λ j. Slot (0 + j)) (index_in S.routine.head.ins x)) (option_map (λ j. Slot (a + j)) (index_in (state_of S) x))
places_of S a c x =
    place_in-append (names_of S.routine.head.ins) (names_of (state_of S)) (slots_from 0 S.routine.head.ins) (slots_from a (state_of S)) x (length-map S.routine.head.ins (λ v. v.name) ∙ sym (slots_length 0 S.routine.head.ins)) ∙ (λ i. either_place (place_in-slots S.routine.head.ins 0 x i) (place_in-slots (state_of S) a x i))

-- ---- assigned variables

pub not_among : (i : ℕ) (ms : List ℕ) → Among i ms → NotIn i ms → ⊥
not_among i [] a n = a
not_among i (m ∷ ms) a n = ⊎_elim n.0 (λ b. not_among i ms b n.1) a

pub apart_outside : (i : ℕ) (ms : List ℕ) (ps : List Spot) → Among i ms → Outside ms ps → Apart (Global i) ps
apart_outside i ms [] a o = tt
apart_outside i ms (Slot j ∷ ps) a o = ((λ e. cc), apart_outside i ms ps a o)
apart_outside i ms (Global j ∷ ps) a o =
    ((λ e. let f : i ≡ j = cc in not_among i ms a (subst (λ n. NotIn n ms) (sym f) o.0)), apart_outside i ms ps a o.1)

global_slots : {A : Type 0} (i k : ℕ) (xs : List A) → Apart (Global i) (slots_from k xs)
global_slots i k [] = tt
global_slots i k (x ∷ xs) = ((λ e. cc), global_slots i (suc k) xs)

module _ (S : Source) (a c : ℕ) (leave : List CoreStmt) (R : Room) (own : List Spot) (fixed : R.fixed ≡ own ++ known (frame_at S a c leave)) (ins_before : length S.routine.head.ins ≤ a) (copied : length S.copied ≡ length S.modifies) (apart : (a + length (state_of S) ≤ c) ⊎ (c + length S.copied ≤ a)) (room : a + length (state_of S) ≤ R.size) (width : length S.globals ≡ R.width) where
  abbrev N : Names
  N = names_at S a c

  -- the slot of an out or a local is none of the copies
  copies_apart : (j : ℕ) → j < length (state_of S) → Apart (Slot (a + j)) (slots_from c S.copied)
  copies_apart j h = ⊎_elim
      (λ (before : a + length (state_of S) ≤ c). apart_below (a + j) c S.copied (omega (arith, h, before)))
      (λ (after : c + length S.copied ≤ a). apart_above (a + j) c S.copied (omega (arith, h, after)))
      apart

  local_set : (x : Text) → IsLocal S x → ((j : ℕ) → j < length (state_of S) → Apart (Slot (a + j)) own) → SetsAt R.size R.width N R.fixed x (spot_of N x)
  local_set x h own_apart =
      let j = h.at in
      let below : j < length (state_of S) = (index_is (state_of S) x j h.found).2 in
      let place : place_in N.local_names N.locals x ≡ Some (Slot (a + j)) = places_of S a c x ∙ (λ i. either_place (option_map (λ j. Slot (0 + j)) (h.not_in i)) (option_map (λ j. Slot (a + j)) (h.found i))) in
      let found : place_of N x ≡ Some (Slot (a + j)) = ap (λ o. either_place o (place_in N.global_names N.globals x)) place in
      let copies = copies_apart j below in
      let entry = apart_set_all (Slot (a + j)) N.globals S.modifies (slots_from c S.copied) (apart_globals (a + j) 0 S.globals) copies in
      let here : SetsAt R.size R.width N R.fixed x (Slot (a + j)) = record {
        found = found;
        in_range = omega (arith, below, room);
        misses = subst (λ o. Misses N o (Slot (a + j))) (sym place) (apart_globals (a + j) 0 S.globals);
        not_entry = entry;
        not_fixed = subst (Apart (Slot (a + j))) (sym fixed) (apart_append (Slot (a + j)) own (known (frame_at S a c leave)) (own_apart j below) (apart_append (Slot (a + j)) (slots_from 0 S.routine.head.ins) (slots_from c S.copied ++ N.entry) (apart_above (a + j) 0 S.routine.head.ins (omega (arith, ins_before))) (apart_append (Slot (a + j)) (slots_from c S.copied) N.entry copies entry)));
      } in
      subst (SetsAt R.size R.width N R.fixed x) (sym (ap (λ (o : Option Spot). unwrap_or o (Slot 0)) found)) here

  global_set : (x : Text) → IsModified S x → OnlySlots own → SetsAt R.size R.width N R.fixed x (spot_of N x)
  global_set x h own_slots =
      let j = 0 + h.at in
      let same : h.at ≡ j = omega arith in
      let below : h.at < length S.globals = (index_is S.globals x h.at h.found).2 in
      let place : place_in N.local_names N.locals x ≡ None = places_of S a c x ∙ (λ i. either_place (option_map (λ j. Slot (0 + j)) (h.not_in i)) (option_map (λ j. Slot (a + j)) (h.not_local i))) in
      let found : place_of N x ≡ Some (Global j) = (λ i. either_place (place i) (place_in-globals S.globals 0 x i)) ∙ ap (λ o. option_map (λ j. Global (0 + j)) o) h.found in
      let modified : Among j S.modifies = subst (λ n. Among n S.modifies) same h.modified in
      let entry = apart_outside j S.modifies N.entry modified (entry_outside S a c copied) in
      let here : SetsAt R.size R.width N R.fixed x (Global j) = record {
        found = found;
        in_range = omega (arith, below, width);
        misses = subst (λ o. Misses N o (Global j)) (sym place) (apart_append (Global j) (slots_from 0 S.routine.head.ins) (slots_from a (state_of S)) (global_slots j 0 S.routine.head.ins) (global_slots j a (state_of S)));
        not_entry = entry;
        not_fixed = subst (Apart (Global j)) (sym fixed) (apart_append (Global j) own (known (frame_at S a c leave)) (apart_outside j S.modifies own modified (outside S.modifies own own_slots)) (apart_append (Global j) (slots_from 0 S.routine.head.ins) (slots_from c S.copied ++ N.entry) (global_slots j 0 S.routine.head.ins) (apart_append (Global j) (slots_from c S.copied) N.entry (global_slots j c S.copied) entry)));
      } in
      subst (SetsAt R.size R.width N R.fixed x) (sym (ap (λ (o : Option Spot). unwrap_or o (Slot 0)) found)) here

  pub can_set : OnlySlots own → ((j : ℕ) → j < length (state_of S) → Apart (Slot (a + j)) own) → (xs : List Text) → MayAssign S xs → CanSet R N xs
  can_set slots own_apart [] h = tt
  can_set slots own_apart (x ∷ xs) h =
      (⊎_elim (λ (l : IsLocal S x). local_set x l own_apart) (λ (m : IsModified S x). global_set x m slots) h.0, can_set slots own_apart xs h.1)
