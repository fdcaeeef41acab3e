-- Each procedure and each loop stands at its number.
use Rattle.std.proofs.Common.{◌≡◌, ℕ, zero, suc, ◌+◌, List, [], ◌∷◌, ◌++◌, Option, Some, None, refl, sym, ◌∙◌, ap, subst, length, arith, append_assoc, length-append}
use Rattle.std.specs.Prelude.{Bool, true, false, slice_get, if◌then◌else◌}
use Rattle.std.specs.Cmp.Lexicographic.{bytes_decides}
use Rattle.std.proofs.lemmas.Option.{none-some}
use Rattle.std.proofs.lemmas.Bool.{false_from_ne_true}
use Rattle.sd_base.proofs.Lists.{slice_get-between}
use Rattle.sd_extract.proofs.SourceWords.{Text, same_text, Decl, Procedure, Program, Proc, StmtKind, If', While', Row_of-Stmt, end_of-Stmt, more_of-Stmt, Routine, procedure_in, routine_named, clauses_of, globals_in, kinds_in, named, callee_of}
use Rattle.sd_extract.proofs.CoreWords.{CoreProc, Source, counts, counts_all, counts_each, has_returns, kinds, loop_proc, loops_in, all_loops_in, each_loop_in, procs_of, source_of, size_of, number_from, routine_procs, procs_from}
use Rattle.sd_base.proofs.Texts.{same_text-refl}
use Rattle.sd_extract.proofs.FormedTables.{OnceEach, procedure_entries}
use Rattle.sd_extract.proofs.FormedLookups.{procedure_named}
use Rattle.sd_extract.proofs.FormedStatements.{LoopsAt, AllLoopsAt, EachLoopsAt}

-- each element, with its place from one on
abbrev pub EachFrom : {A : Type 0} → (ℕ → A → Type 0) → ℕ → List A → Type 0
EachFrom Q n [] = Unit {0}
EachFrom Q n (x ∷ xs) = Q n x × EachFrom Q (suc n) xs

pub each_append : {A : Type 0} (Q : ℕ → A → Type 0) (n : ℕ) (xs ys : List A) → EachFrom Q n xs → EachFrom Q (n + length xs) ys → EachFrom Q n (xs ++ ys)
each_append Q n [] ys h k = let e : n + 0 ≡ n = omega arith in subst (λ (m : ℕ). EachFrom Q m ys) e k
each_append Q n (x ∷ xs) ys h k =
    let e : n + suc (length xs) ≡ suc n + length xs = omega arith in
    (h.0, each_append Q (suc n) xs ys h.1 (subst (λ (m : ℕ). EachFrom Q m ys) e k))

pub each_at : {A : Type 0} (Q : ℕ → A → Type 0) (n : ℕ) (xs : List A) (k : ℕ) (x : A) → EachFrom Q n xs → slice_get xs k ≡ Some x → Q (n + k) x
each_at Q n [] k x h e = absurd (none-some x e)
each_at Q n (y ∷ xs) zero x h e =
    let same : y ≡ x = cc in let f : n ≡ n + zero = omega arith in subst (λ (m : ℕ). Q m x) f (subst (Q n) same h.0)
each_at Q n (y ∷ xs) (suc k) x h e =
    let f : suc n + k ≡ n + suc k = omega arith in subst (λ (m : ℕ). Q m x) f (each_at Q (suc n) xs k x h.1 e)

-- ---- loops

module _ (P : Program) (number : Text → ℕ) (S : Source) where
  mutual
    pub loops_length : (n : ℕ) (s : StmtKind) → length (loops_in P number S n s) ≡ (counts s).loops
    loops_length n (While' e invs shape body) = let h = all_loops_length (suc n) body in omega (arith, h)
    loops_length n (If' e shape x shape' y) =
        let h = all_loops_length n x in let i = all_loops_length (n + (counts_all x).loops) y in
        let j = length-append (all_loops_in P number S n x) (all_loops_in P number S (n + (counts_all x).loops) y) in
        omega (arith, h, i, j)
    loops_length n _ = refl

    pub all_loops_length : (n : ℕ) {m : _} (ss : Row_of-Stmt m) → length (all_loops_in P number S n ss) ≡ (counts_all ss).loops
    all_loops_length n end_of-Stmt = refl
    all_loops_length n (more_of-Stmt p s ss) =
        let h = loops_length n s in let i = all_loops_length (n + (counts s).loops) ss in
        let j = length-append (loops_in P number S n s) (all_loops_in P number S (n + (counts s).loops) ss) in
        omega (arith, h, i, j)

  pub each_loop_length : (n : ℕ) (ss : List StmtKind) → length (each_loop_in P number S n ss) ≡ (counts_each ss).loops
  each_loop_length n [] = refl
  each_loop_length n (s ∷ ss) =
      let h = loops_length n s in let i = each_loop_length (n + (counts s).loops) ss in
      let j = length-append (loops_in P number S n s) (each_loop_in P number S (n + (counts s).loops) ss) in
      omega (arith, h, i, j)

  -- the loop's procedure stands at its number
  abbrev pub LoopIs : List CoreProc → ℕ → StmtKind → Type 0
  LoopIs procs n (While' e invs shape body) = slice_get procs n ≡ Some (loop_proc P number S n e (clauses_of invs) (has_returns body) (kinds_in body))
  LoopIs procs n _ = ⊥

  mutual
    pub loop_placed : (procs pre post : List CoreProc) (n : ℕ) (s : StmtKind) → procs ≡ pre ++ (loops_in P number S n s ++ post) → length pre ≡ n → LoopsAt (LoopIs procs) n s
    loop_placed procs pre post n (While' e invs shape body) is long =
        let x = loop_proc P number S n e (clauses_of invs) (has_returns body) (kinds_in body) in
        let rest = all_loops_in P number S (suc n) body in
        let l = length-append pre (x ∷ []) in
        (ap (λ (ps : List CoreProc). slice_get ps n) is ∙ slice_get-between pre x (rest ++ post) n long, all_loops_placed procs (pre ++ (x ∷ [])) post (suc n) body (is ∙ sym (append_assoc pre (x ∷ []) (rest ++ post))) (omega (arith, l, long)))
    loop_placed procs pre post n (If' e shape x shape' y) is long =
        let m = n + (counts_all x).loops in
        let xs = all_loops_in P number S n x in let ys = all_loops_in P number S m y in
        let inside : procs ≡ pre ++ (xs ++ (ys ++ post)) = is ∙ ap (λ (ps : List CoreProc). pre ++ ps) (append_assoc xs ys post) in
        let l = length-append pre xs in let j = all_loops_length n x in
        (all_loops_placed procs pre (ys ++ post) n x inside long, all_loops_placed procs (pre ++ xs) post m y (inside ∙ sym (append_assoc pre xs (ys ++ post))) (omega (arith, l, j, long)))
    loop_placed procs pre post n _ is long = tt

    pub all_loops_placed : (procs pre post : List CoreProc) (n : ℕ) {m : _} (ss : Row_of-Stmt m) → procs ≡ pre ++ (all_loops_in P number S n ss ++ post) → length pre ≡ n → AllLoopsAt (LoopIs procs) n ss
    all_loops_placed procs pre post n end_of-Stmt is long = tt
    all_loops_placed procs pre post n (more_of-Stmt p s ss) is long =
        let m = n + (counts s).loops in
        let xs = loops_in P number S n s in let ys = all_loops_in P number S m ss in
        let inside : procs ≡ pre ++ (xs ++ (ys ++ post)) = is ∙ ap (λ (ps : List CoreProc). pre ++ ps) (append_assoc xs ys post) in
        let l = length-append pre xs in let j = loops_length n s in
        (loop_placed procs pre (ys ++ post) n s inside long, all_loops_placed procs (pre ++ xs) post m ss (inside ∙ sym (append_assoc pre xs (ys ++ post))) (omega (arith, l, j, long)))

  pub each_loop_placed : (procs pre post : List CoreProc) (n : ℕ) (ss : List StmtKind) → procs ≡ pre ++ (each_loop_in P number S n ss ++ post) → length pre ≡ n → EachLoopsAt (LoopIs procs) n ss
  each_loop_placed procs pre post n [] is long = tt
  each_loop_placed procs pre post n (s ∷ ss) is long =
      let m = n + (counts s).loops in
      let xs = loops_in P number S n s in let ys = each_loop_in P number S m ss in
      let inside : procs ≡ pre ++ (xs ++ (ys ++ post)) = is ∙ ap (λ (ps : List CoreProc). pre ++ ps) (append_assoc xs ys post) in
      let l = length-append pre xs in let j = loops_length n s in
      (loop_placed procs pre (ys ++ post) n s inside long, each_loop_placed procs (pre ++ xs) post m ss (inside ∙ sym (append_assoc pre xs (ys ++ post))) (omega (arith, l, j, long)))

-- what holds of each loop gives what else holds of it
module _ (Q R : ℕ → StmtKind → Type 0) (f : (n : ℕ) (s : StmtKind) → Q n s → R n s) where
  mutual
    pub loops_give : (n : ℕ) (s : StmtKind) → LoopsAt Q n s → LoopsAt R n s
    loops_give n (While' e invs shape body) h = (f n (While' e invs shape body) h.0, all_loops_give (suc n) body h.1)
    loops_give n (If' e shape x shape' y) h = (all_loops_give n x h.0, all_loops_give (n + (counts_all x).loops) y h.1)
    loops_give n _ h = tt

    pub all_loops_give : (n : ℕ) {m : _} (ss : Row_of-Stmt m) → AllLoopsAt Q n ss → AllLoopsAt R n ss
    all_loops_give n end_of-Stmt h = tt
    all_loops_give n (more_of-Stmt p s ss) h = (loops_give n s h.0, all_loops_give (n + (counts s).loops) ss h.1)

  pub each_loops_give : (n : ℕ) (ss : List StmtKind) → EachLoopsAt Q n ss → EachLoopsAt R n ss
  each_loops_give n [] h = tt
  each_loops_give n (s ∷ ss) h = (loops_give n s h.0, each_loops_give (n + (counts s).loops) ss h.1)

pub row_loops : (Q : ℕ → StmtKind → Type 0) (n : ℕ) {m : _} (ss : Row_of-Stmt m) → AllLoopsAt Q n ss → EachLoopsAt Q n (kinds_in ss)
row_loops Q n end_of-Stmt h = tt
row_loops Q n (more_of-Stmt p s ss) h = (h.0, row_loops Q (n + (counts s).loops) ss h.1)

-- ---- procedures

procs_length : (P : Program) (S : Source) → length (procs_of P (number_from P 0 P.decls) S) ≡ suc (counts_each (kinds S)).loops
procs_length P S = let h = each_loop_length P (number_from P 0 P.decls) S (suc S.number) (kinds S) in omega (arith, h)

pub routine_length : (P : Program) (n : ℕ) (o : Option Routine) → length (routine_procs P n o) ≡ size_of o
routine_length P n None = refl
routine_length P n (Some r) = procs_length P (source_of (globals_in P.decls) n r)

-- the procedures that a routine becomes stand behind these and before those
pub record StandsIn (P : Program) (all : List CoreProc) (r : Routine) (n : ℕ) : Type 0 where
  pub front : List CoreProc
  pub back : List CoreProc
  pub parts : all ≡ front ++ (procs_of P (number_from P 0 P.decls) (source_of (globals_in P.decls) n r) ++ back)
  pub number : length front ≡ n

module _ (P : Program) (f : Text) (d : Proc) (r : Routine) (is : routine_named P f ≡ Some r) where
  pub stands_in : (ds : List Decl) (n : ℕ) (pre : List CoreProc) → length pre ≡ n → procedure_in ds f ≡ Some d → StandsIn P (pre ++ procs_from P n ds) r (number_from P n ds f)
  stands_in [] n pre long e = absurd (none-some d e)
  stands_in (Procedure p ∷ ds) n pre long e =
      let mine = routine_procs P n (routine_named P p.head.name) in
      let next = n + size_of (routine_named P p.head.name) in
      let l = length-append pre mine in
      let m = routine_length P n (routine_named P p.head.name) in
      go (same_text f p.head.name) refl e (stands_in ds next (pre ++ mine) (omega (arith, l, m, long)))
    where
      go : (b : Bool) → same_text f p.head.name ≡ b → (if b then Some p else procedure_in ds f) ≡ Some d → (procedure_in ds f ≡ Some d → StandsIn P ((pre ++ routine_procs P n (routine_named P p.head.name)) ++ procs_from P (n + size_of (routine_named P p.head.name)) ds) r (number_from P (n + size_of (routine_named P p.head.name)) ds f)) → StandsIn P (pre ++ (routine_procs P n (routine_named P p.head.name) ++ procs_from P (n + size_of (routine_named P p.head.name)) ds)) r (if b then n else number_from P (n + size_of (routine_named P p.head.name)) ds f)
      go true t h rec =
          let same : f ≡ p.head.name = (bytes_decides f p.head.name).0 t in
          let found : routine_named P p.head.name ≡ Some r = ap (routine_named P) (sym same) ∙ is in
          let rest = procs_from P (n + size_of (routine_named P p.head.name)) ds in
          record { front = pre; back = rest; parts = ap (λ (o : Option Routine). pre ++ (routine_procs P n o ++ rest)) found; number = long }
      go false t h rec =
          let mine = routine_procs P n (routine_named P p.head.name) in
          let next = n + size_of (routine_named P p.head.name) in
          subst (λ (all : List CoreProc). StandsIn P all r (number_from P next ds f)) (append_assoc pre mine (procs_from P next ds)) (rec h)
  stands_in (_ ∷ ds) n pre long e = stands_in ds n pre long e

-- what holds of the procedures of each routine holds of all
module _ (P : Program) (Q : ℕ → CoreProc → Type 0) (each : (f : Text) (r : Routine) → routine_named P f ≡ Some r → EachFrom Q (number_from P 0 P.decls f) (procs_of P (number_from P 0 P.decls) (source_of (globals_in P.decls) (number_from P 0 P.decls f) r))) where
  pub all_procs : (ds : List Decl) (n : ℕ) → OnceEach (procedure_entries ds) → ((f : Text) (d : Proc) → procedure_in ds f ≡ Some d → number_from P 0 P.decls f ≡ number_from P n ds f) → EachFrom Q n (procs_from P n ds)
  all_procs [] n once at = tt
  all_procs (Procedure p ∷ ds) n once at =
      let name = p.head.name in
      let mine = routine_procs P n (routine_named P name) in
      let next = n + size_of (routine_named P name) in
      let long = routine_length P n (routine_named P name) in
      let rest = all_procs ds next once.1 later in
      each_append Q n mine (procs_from P next ds) (go (routine_named P name) refl) (subst (λ (m : ℕ). EachFrom Q (n + m) (procs_from P next ds)) (sym long) rest)
    where
      head_number : number_from P 0 P.decls p.head.name ≡ n
      head_number =
          at p.head.name p (ap (λ (b : Bool). if b then Some p else procedure_in ds p.head.name) (same_text-refl p.head.name)) ∙ ap (λ (b : Bool). if b then n else number_from P (n + size_of (routine_named P p.head.name)) ds p.head.name) (same_text-refl p.head.name)

      go : (o : Option Routine) → routine_named P p.head.name ≡ o → EachFrom Q n (routine_procs P n o)
      go None e = tt
      go (Some r) e =
          subst (λ (m : ℕ). EachFrom Q m (procs_of P (number_from P 0 P.decls) (source_of (globals_in P.decls) m r))) head_number (each p.head.name r e)

      other : (f : Text) (d : Proc) → procedure_in ds f ≡ Some d → same_text f p.head.name ≡ false
      other f d e = false_from_ne_true (same_text f p.head.name) (λ t.
          let here : named (procedure_entries ds) p.head.name ≡ Some (callee_of d) = subst (λ (g : Text). named (procedure_entries ds) g ≡ Some (callee_of d)) ((bytes_decides f p.head.name).0 t) (procedure_named ds f d e) in
          none-some (callee_of d) (sym once.0 ∙ here))

      later : (f : Text) (d : Proc) → procedure_in ds f ≡ Some d → number_from P 0 P.decls f ≡ number_from P (n + size_of (routine_named P p.head.name)) ds f
      later f d e =
          let away = other f d e in
          at f d (ap (λ (b : Bool). if b then Some p else procedure_in ds f) away ∙ e) ∙ ap (λ (b : Bool). if b then n else number_from P (n + size_of (routine_named P p.head.name)) ds f) away
  all_procs (_ ∷ ds) n once at = all_procs ds n once at
