-- The slots of a body and of a loop's procedure are apart.
use Rattle.std.proofs.Common.{◌≡◌, ◌≢◌, ℕ, zero, suc, ◌+◌, ◌≤◌, ◌<◌, List, [], ◌∷◌, ◌++◌, refl, sym, ◌∙◌, ap, subst, get_or, length, arith, append_assoc, length-append}
use Rattle.std.specs.Prelude.{Bool, true, false, set, codes, if◌then◌else◌}
use Rattle.std.proofs.Math.Seq.{get_or-append_seam}
use Rattle.std.proofs.lemmas.List.{length-map}
use Rattle.sd_extract.proofs.SourceWords.{Var, Text, Value, Expr, Program, StmtKind, Clause, names_of}
use Rattle.sd_extract.proofs.CoreWords.{Spot, Slot, Global, CoreStmt, set_all, nothing, slots_from, out_spots, Frame, Source, state_of, copies_of, names_at, frame_at, globals_from, loop_state, left_of, loop_frame, loop_proc}
use Rattle.sd_base.specs.declared.Sort as sort
use Rattle.sd_extract.proofs.Expressions.{at_all}
use Rattle.sd_extract.proofs.Writes.{Apart, Distinct, IsLaidOut}
use Rattle.sd_extract.proofs.Agree.{Room}
use Rattle.sd_extract.proofs.CallsAgree.{AllSpots, NotIn, Outside, Hidden, HasGlobals}
use Rattle.sd_extract.proofs.LoopCalls.{AllApart, only_slots, outside, Spaced}

-- ---- one list

slot_is : (i j : ℕ) → Slot i ≡ Slot j → i ≡ j
slot_is i j e = cc

global_is : (i j : ℕ) → Global i ≡ Global j → i ≡ j
global_is i j e = cc

other_kind : (i j : ℕ) → Global i ≢ Slot j
other_kind i j = λ e. cc

pub apart_below : {A : Type 0} (i k : ℕ) (xs : List A) → i < k → Apart (Slot i) (slots_from k xs)
apart_below i k [] h = tt
apart_below i k (x ∷ xs) h = ((λ e. let f = slot_is k i e in absurd (omega (arith, f, h))), apart_below i (suc k) xs (omega (arith, h)))

pub apart_above : {A : Type 0} (i k : ℕ) (xs : List A) → k + length xs ≤ i → Apart (Slot i) (slots_from k xs)
apart_above i k [] h = tt
apart_above i k (x ∷ xs) h = ((λ e. let f = slot_is k i e in absurd (omega (arith, f, h))), apart_above i (suc k) xs (omega (arith, h)))

pub apart_globals : {A : Type 0} (i k : ℕ) (xs : List A) → Apart (Slot i) (globals_from k xs)
apart_globals i k [] = tt
apart_globals i k (x ∷ xs) = (other_kind k i, apart_globals i (suc k) xs)

global_below : {A : Type 0} (i k : ℕ) (xs : List A) → i < k → Apart (Global i) (globals_from k xs)
global_below i k [] h = tt
global_below i k (x ∷ xs) h = ((λ e. let f = global_is k i e in absurd (omega (arith, f, h))), global_below i (suc k) xs (omega (arith, h)))

pub distinct_slots : {A : Type 0} (k : ℕ) (xs : List A) → Distinct (slots_from k xs)
distinct_slots k [] = tt
distinct_slots k (x ∷ xs) = (apart_below k (suc k) xs (omega arith), distinct_slots (suc k) xs)

pub distinct_globals : {A : Type 0} (k : ℕ) (xs : List A) → Distinct (globals_from k xs)
distinct_globals k [] = tt
distinct_globals k (x ∷ xs) = (global_below k (suc k) xs (omega arith), distinct_globals (suc k) xs)

pub slots_range : {A : Type 0} (size width k : ℕ) (xs : List A) → k + length xs ≤ size → AllSpots size width (slots_from k xs)
slots_range size width k [] h = tt
slots_range size width k (x ∷ xs) h = (omega (arith, h), slots_range size width (suc k) xs (omega (arith, h)))

-- ---- two lists

pub all_before : {A B : Type 0} (k l : ℕ) (xs : List A) (ys : List B) → k + length xs ≤ l → AllApart (slots_from k xs) (slots_from l ys)
all_before k l [] ys h = tt
all_before k l (x ∷ xs) ys h = (apart_below k l ys (omega (arith, h)), all_before (suc k) l xs ys (omega (arith, h)))

pub all_after : {A B : Type 0} (k l : ℕ) (xs : List A) (ys : List B) → l + length ys ≤ k → AllApart (slots_from k xs) (slots_from l ys)
all_after k l [] ys h = tt
all_after k l (x ∷ xs) ys h = (apart_above k l ys h, all_after (suc k) l xs ys (omega (arith, h)))

pub all_globals : {A B : Type 0} (k l : ℕ) (xs : List A) (ys : List B) → AllApart (slots_from k xs) (globals_from l ys)
all_globals k l [] ys = tt
all_globals k l (x ∷ xs) ys = (apart_globals k l ys, all_globals (suc k) l xs ys)

pub apart_append : (p : Spot) (xs ys : List Spot) → Apart p xs → Apart p ys → Apart p (xs ++ ys)
apart_append p [] ys h k = k
apart_append p (x ∷ xs) ys h k = (h.0, apart_append p xs ys h.1 k)

pub all_append : (ps xs ys : List Spot) → AllApart ps xs → AllApart ps ys → AllApart ps (xs ++ ys)
all_append [] xs ys h k = tt
all_append (p ∷ ps) xs ys h k = (apart_append p xs ys h.0 k.0, all_append ps xs ys h.1 k.1)

pub distinct_append : (xs ys : List Spot) → Distinct xs → Distinct ys → AllApart xs ys → Distinct (xs ++ ys)
distinct_append [] ys h k a = k
distinct_append (x ∷ xs) ys h k a = (apart_append x xs ys h.0 a.0, distinct_append xs ys h.1 k a.1)

apart_set : (p : Spot) (xs : List Spot) (i : ℕ) (q : Spot) → Apart p xs → q ≢ p → Apart p (set xs i q)
apart_set p [] i q h n = tt
apart_set p (x ∷ xs) zero q h n = (n, h.1)
apart_set p (x ∷ xs) (suc i) q h n = (h.0, apart_set p xs i q h.1 n)

pub apart_set_all : (p : Spot) (xs : List Spot) (ms : List ℕ) (qs : List Spot) → Apart p xs → Apart p qs → Apart p (set_all xs ms qs)
apart_set_all p xs [] qs h k = h
apart_set_all p xs (m ∷ ms) [] h k = h
apart_set_all p xs (m ∷ ms) (q ∷ qs) h k = apart_set_all p (set xs m q) ms qs (apart_set p xs m q h k.0) k.1

pub all_set_all : (ps xs : List Spot) (ms : List ℕ) (qs : List Spot) → AllApart ps xs → AllApart ps qs → AllApart ps (set_all xs ms qs)
all_set_all [] xs ms qs h k = tt
all_set_all (p ∷ ps) xs ms qs h k = (apart_set_all p xs ms qs h.0 k.0, all_set_all ps xs ms qs h.1 k.1)

pub outside_append : (ms : List ℕ) (ps qs : List Spot) → Outside ms ps → Outside ms qs → Outside ms (ps ++ qs)
outside_append ms [] qs h k = k
outside_append ms (Slot i ∷ ps) qs h k = outside_append ms ps qs h k
outside_append ms (Global i ∷ ps) qs h k = (h.0, outside_append ms ps qs h.1 k)

-- ---- where the globals at the entry are kept

-- from position k on, each global stands at its number, and is none of the done ones
abbrev pub Marked : List ℕ → ℕ → List Spot → Type 0
Marked done k [] = Unit {0}
Marked done k (Slot i ∷ ps) = Marked done (suc k) ps
Marked done k (Global i ∷ ps) = (i ≡ k) × NotIn i done × Marked done (suc k) ps

marked_from : {A : Type 0} (k : ℕ) (xs : List A) → Marked [] k (globals_from k xs)
marked_from k [] = tt
marked_from k (x ∷ xs) = (refl, tt, marked_from (suc k) xs)

-- past a number, it is done
marked_past : (done : List ℕ) (m k : ℕ) (ps : List Spot) → m < k → Marked done k ps → Marked (m ∷ done) k ps
marked_past done m k [] h q = tt
marked_past done m k (Slot i ∷ ps) h q = marked_past done m (suc k) ps (omega (arith, h)) q
marked_past done m k (Global i ∷ ps) h q =
    (q.0, ((λ e. let f = q.0 in absurd (omega (arith, e, f, h))), q.1), marked_past done m (suc k) ps (omega (arith, h)) q.2)

marked_set : (done : List ℕ) (k m c : ℕ) (ps : List Spot) → Marked done k ps → Marked ((k + m) ∷ done) k (set ps m (Slot c))
marked_set done k m c [] h = tt
marked_set done k zero c (Slot i ∷ ps) h = marked_past done (k + zero) (suc k) ps (omega arith) h
marked_set done k zero c (Global i ∷ ps) h = marked_past done (k + zero) (suc k) ps (omega arith) h.2
marked_set done k (suc m) c (Slot i ∷ ps) h =
    subst (λ (n : ℕ). Marked (n ∷ done) (suc k) (set ps m (Slot c))) (omega arith) (marked_set done (suc k) m c ps h)
marked_set done k (suc m) c (Global i ∷ ps) h =
    (h.0, ((λ e. let f = h.0 in absurd (omega (arith, e, f))), h.1), subst (λ (n : ℕ). Marked (n ∷ done) (suc k) (set ps m (Slot c))) (omega arith) (marked_set done (suc k) m c ps h.2))

abbrev onto : List ℕ → List ℕ → List ℕ
onto [] done = done
onto (m ∷ ms) done = onto ms (m ∷ done)

marked_all : {A : Type 0} (done ms : List ℕ) (c : ℕ) (xs : List A) (ps : List Spot) → length xs ≡ length ms → Marked done 0 ps → Marked (onto ms done) 0 (set_all ps ms (slots_from c xs))
marked_all done [] c xs ps e h = h
marked_all done (m ∷ ms) c [] ps e h = absurd (omega (arith, e))
marked_all done (m ∷ ms) c (x ∷ xs) ps e h =
    marked_all (m ∷ done) ms (suc c) xs (set ps m (Slot c)) (omega (arith, e)) (subst (λ (n : ℕ). Marked (n ∷ done) 0 (set ps m (Slot c))) (omega arith) (marked_set done 0 m c ps h))

not_in_done : (i : ℕ) (ms done : List ℕ) → NotIn i (onto ms done) → NotIn i done
not_in_done i [] done h = h
not_in_done i (m ∷ ms) done h = (not_in_done i ms (m ∷ done) h).1

not_in_onto : (i : ℕ) (ms done : List ℕ) → NotIn i (onto ms done) → NotIn i ms
not_in_onto i [] done h = tt
not_in_onto i (m ∷ ms) done h = ((not_in_done i ms (m ∷ done) h).0, not_in_onto i ms (m ∷ done) h)

marked_outside : (ms : List ℕ) (k : ℕ) (ps : List Spot) → Marked (onto ms []) k ps → Outside ms ps
marked_outside ms k [] h = tt
marked_outside ms k (Slot i ∷ ps) h = marked_outside ms (suc k) ps h
marked_outside ms k (Global i ∷ ps) h = (not_in_onto i ms [] h.1, marked_outside ms (suc k) ps h.2)

-- what the entry's list has of globals isn't modified
pub entry_outside : (S : Source) (a c : ℕ) → length S.copied ≡ length S.modifies → Outside S.modifies (names_at S a c).entry
entry_outside S a c e =
    marked_outside S.modifies 0 (names_at S a c).entry (marked_all [] S.modifies c S.copied (globals_from 0 S.globals) e (marked_from 0 S.globals))

-- ---- the globals of a frame

read_globals : {A : Type 0} (slots pre gs : List Value) (xs : List A) (k : ℕ) → k ≡ length pre → length xs ≡ length gs → at_all (record { slots = slots; globals = pre ++ gs }) (globals_from k xs) ≡ gs
read_globals slots pre [] [] k e h = refl
read_globals slots pre (g ∷ gs) [] k e h = absurd (omega (arith, h))
read_globals slots pre [] (x ∷ xs) k e h = absurd (omega (arith, h))
read_globals slots pre (g ∷ gs) (x ∷ xs) k e h =
    let here : get_or (pre ++ (g ∷ gs)) k nothing ≡ g = ap (λ n. get_or (pre ++ (g ∷ gs)) n nothing) e ∙ get_or-append_seam pre g gs nothing in
    let longer : suc k ≡ length (pre ++ (g ∷ [])) = let l = length-append pre (g ∷ []) in omega (arith, e, l) in
    let shift : (pre ++ (g ∷ [])) ++ gs ≡ pre ++ (g ∷ gs) = append_assoc pre (g ∷ []) gs in
    let rest = ap (λ vs. at_all (record { slots = slots; globals = vs }) (globals_from (suc k) xs)) (sym shift) ∙ read_globals slots (pre ++ (g ∷ [])) gs xs (suc k) longer (omega (arith, h)) in
    λ i. here i ∷ rest i

pub has_globals : (S : Source) (a c : ℕ) (R : Room) → length S.globals ≡ R.width → HasGlobals (names_of S.globals) R (names_at S a c)
has_globals S a c R e = record {
  same_names = refl;
  width = length-map S.globals (λ v. v.name) ∙ e;
  reads = λ st h. read_globals st.slots [] st.globals S.globals 0 refl (e ∙ sym h);
}

-- ---- frames

pub laid_out : (S : Source) (a c : ℕ) → length S.routine.head.ins ≤ a → IsLaidOut (names_at S a c)
laid_out S a c h = record {
  locals = distinct_append (slots_from 0 S.routine.head.ins) (slots_from a (state_of S)) (distinct_slots 0 S.routine.head.ins) (distinct_slots a (state_of S)) (all_before 0 a S.routine.head.ins (state_of S) (omega (arith, h)));
  globals = distinct_globals 0 S.globals;
}

-- spots that every frame of a source knows: its ins, its copies and the globals at the entry
abbrev pub known : Frame → List Spot
known F = F.ins ++ (F.copies ++ F.names.entry)

-- slots that are none of the known ones
all_known : {A : Type 0} (S : Source) (a c l : ℕ) (leave : List CoreStmt) (xs : List A) → length S.routine.head.ins ≤ l → AllApart (slots_from l xs) (slots_from c S.copied) → AllApart (slots_from l xs) (known (frame_at S a c leave))
all_known S a c l leave xs h copies =
    let F = frame_at S a c leave in
    all_append (slots_from l xs) F.ins (F.copies ++ F.names.entry) (all_after l 0 xs S.routine.head.ins (omega (arith, h))) (all_append (slots_from l xs) F.copies F.names.entry copies (all_set_all (slots_from l xs) F.names.globals S.modifies F.copies (all_globals l 0 xs S.globals) copies))

-- A frame of a source, with slots for `left` past all of its own. Its room fixes the known spots, and `own`.
pub frame_spaced : {A : Type 0} (S : Source) (a c : ℕ) (leave : List CoreStmt) (R : Room) (own : List Spot) (l : ℕ) (xs : List A) → length S.routine.head.ins ≤ a → AllApart (slots_from a (state_of S)) (slots_from c S.copied) → c + length S.copied ≤ l → a + length (state_of S) ≤ l → l + length xs ≤ R.size → length S.globals ≡ R.width → length S.copied ≡ length S.modifies → R.fixed ≡ own ++ known (frame_at S a c leave) → AllApart (slots_from a (state_of S)) own → AllApart (slots_from l xs) own → Outside S.modifies own → Spaced S R (frame_at S a c leave) (slots_from l xs)
frame_spaced S a c leave R own l xs ha apart hc hs hl width copied fixed state_own left_own own_kept =
    let F = frame_at S a c leave in
    let left = slots_from l xs in
    let left_copies = all_after l c xs S.copied hc in
    record {
      state_distinct = distinct_slots a (state_of S);
      state_range = slots_range R.size R.width a (state_of S) (omega (arith, hs, hl));
      state_ins = all_after a 0 (state_of S) S.routine.head.ins (omega (arith, ha));
      state_copies = apart;
      state_fixed = subst (AllApart F.state) (sym fixed) (all_append F.state own (known F) state_own (all_known S a c a leave (state_of S) ha apart));
      left_distinct = distinct_slots l xs;
      left_range = slots_range R.size R.width l xs hl;
      left_slots = only_slots l xs;
      left_ins = all_after l 0 xs S.routine.head.ins (omega (arith, ha, hs));
      left_state = all_after l a xs (state_of S) hs;
      left_copies = left_copies;
      left_fixed = subst (AllApart left) (sym fixed) (all_append left own (known F) left_own (all_known S a c l leave xs (omega (arith, ha, hs)) left_copies));
      fixed_kept = subst (Outside S.modifies) (sym fixed) (outside_append S.modifies own (known F) own_kept (outside_append S.modifies F.ins (F.copies ++ F.names.entry) (outside S.modifies F.ins (only_slots 0 S.routine.head.ins)) (outside_append S.modifies F.copies F.names.entry (outside S.modifies F.copies (only_slots c S.copied)) (entry_outside S a c copied))));
      same_size = width;
    }

-- a slot past all of a frame's own is hidden
pub slot_hidden : (S : Source) (a c : ℕ) (leave : List CoreStmt) (R : Room) (own : List Spot) (l : ℕ) → length S.routine.head.ins ≤ a → c + length S.copied ≤ l → a + length (state_of S) ≤ l → l < R.size → R.fixed ≡ own ++ known (frame_at S a c leave) → Apart (Slot l) own → Hidden R (frame_at S a c leave).names (Slot l)
slot_hidden S a c leave R own l ha hc hs hl fixed left_own =
    let F = frame_at S a c leave in
    let ins = apart_above l 0 S.routine.head.ins (omega (arith, ha, hs)) in
    let copies = apart_above l c S.copied hc in
    let entry = apart_set_all (Slot l) F.names.globals S.modifies F.copies (apart_globals l 0 S.globals) copies in
    record {
      in_range = hl;
      not_local = apart_append (Slot l) F.ins F.state ins (apart_above l a (state_of S) hs);
      not_global = apart_globals l 0 S.globals;
      not_entry = entry;
      not_fixed = subst (Apart (Slot l)) (sym fixed) (apart_append (Slot l) own (known F) left_own (apart_append (Slot l) F.ins (F.copies ++ F.names.entry) ins (apart_append (Slot l) F.copies F.names.entry copies entry)));
    }

-- ---- outs

slots_append : {A : Type 0} (k : ℕ) (xs ys : List A) → slots_from k (xs ++ ys) ≡ slots_from k xs ++ slots_from (k + length xs) ys
slots_append k [] ys = ap (λ (n : ℕ). slots_from n ys) (omega arith)
slots_append k (x ∷ xs) ys =
    let e : suc k + length xs ≡ k + length (x ∷ xs) = omega arith in
    ap (λ (ps : List Spot). Slot k ∷ ps) (slots_append (suc k) xs ys ∙ ap (λ (n : ℕ). slots_from (suc k) xs ++ slots_from n ys) e)

pub loop_outs : (P : Program) (number : Text → ℕ) (S : Source) (k : ℕ) (guard : Expr) (invs : List Clause) (returns : Bool) (turn : List StmtKind) → out_spots (loop_proc P number S k guard invs returns turn) ≡ (loop_frame S).state ++ left_of S returns
loop_outs P number S k guard invs returns turn =
    let p = loop_proc P number S k guard invs returns turn in
    let h = length-append S.routine.head.ins (state_of S ++ copies_of S) in
    let i = length-append (state_of S) (copies_of S) in
    let j : length (copies_of S) ≡ length S.copied = length-map {B = Var} S.copied (λ v. record { name = v.name ++ codes "@copy"; sort = v.sort }) in
    let first : length p.ins ≡ loop_state S = omega (arith, h, i, j) in
    ap (λ (n : ℕ). slots_from n p.outs) first ∙ by_left returns
  where
    by_left : (r : Bool) → slots_from (loop_state S) (state_of S ++ (if r then record { name = codes "left"; sort = sort.Bool } ∷ [] else [])) ≡ slots_from (loop_state S) (state_of S) ++ left_of S r
    by_left true = slots_append (loop_state S) (state_of S) (record { name = codes "left"; sort = sort.Bool } ∷ [])
    by_left false = slots_append (loop_state S) (state_of S) []
