-- What is spelled as a program is read.
use Rattle.std.proofs.Common.{◌≡◌, ℕ, ◌<◌, ◌≤◌, max, true, false, List, [], ◌∷◌, ◌++◌, length, refl, ap, sym, ◌∙◌, subst, arith, append_assoc}
use Rattle.std.specs.Prelude.{Bool, Some, None}
use Rattle.std.proofs.lemmas.List.{append-nil}
use Rattle.sd_base.specs.declared.Sort.{Sort}
use Rattle.sd_base.specs.declared.Sort.TheVariants as sort
use Rattle.sd_base.specs.declared.Place.{Place}
use Rattle.sd_base.specs.declared.Var.{Var}
use Rattle.sd_base.specs.Value.{Text}
use Rattle.sd_lex.specs.declared.Token.{Token}
use Rattle.sd_ast.specs.declared.Expr.{Expr}
use Rattle.sd_ast.specs.declared.Stmt.{Stmt}
use Rattle.sd_ast.specs.declared.Body.{Body}
use Rattle.sd_ast.specs.declared.Head.{Head}
use Rattle.sd_ast.specs.declared.Spec.{Spec}
use Rattle.sd_ast.specs.declared.Spec.TheVariants as spec
use Rattle.sd_ast.specs.declared.Decl.{Decl}
use Rattle.sd_ast.specs.declared.Decl.TheVariants as decl
use Rattle.sd_parse.specs.declared.class.TokenClass.{TokenClass}
use Rattle.sd_parse.specs.declared.class.TokenClass.TheVariants as s
use Rattle.sd_parse.specs.Grammar.{Tokens, Is, IsName}
use Rattle.sd_parse.specs.Rows as w
use Rattle.sd_parse.specs.Rows.{Row, Joined, Enclosed}
use Rattle.sd_parse.specs.Types as ty
use Rattle.sd_parse.specs.Types.{TypeText}
use Rattle.sd_parse.specs.Clauses as c
use Rattle.sd_parse.specs.Clauses.{Attributes, Claim, Clause}
use Rattle.sd_parse.specs.Statements as st
use Rattle.sd_parse.specs.Statements.{Names, Statements}
use Rattle.sd_parse.specs.Programs as p
use Rattle.sd_parse.specs.Programs.{variables, Typed, Vars, VarLine, Parameters, Results, HeadText, SpecText, BodyText, Uniqueness, Argument, ResultType, Declaration}
use Rattle.sd_parse.specs.Reading.{Got, and_then, ahead, class_of, want, name}
use Rattle.sd_parse.specs.ReadingRows.{is, push, join_lists, names, enclosed}
use Rattle.sd_parse.specs.ReadingRows as reading
use Rattle.sd_parse.specs.ReadingTypes.{begins_type, type_of}
use Rattle.sd_parse.specs.ReadingClauses.{attributes, claim}
use Rattle.sd_parse.specs.ReadingStatements.{statements, statement}
use Rattle.sd_parse.specs.ReadingPrograms.{begins_spec, begins_declaration, modified_by, modified, modifies, uniqueness_by, uniqueness, typed, group, more_groups, vars, var_line, locals, parameters_by, listed_parameters, parameters, results_by, results, head, required, ensured, condition_by, condition, free_condition, clause_by, clause, clauses, body, named_by, after_name, named_argument, argument_by, argument, returned_type, colon_type, result_by, result_type, types, constants, function, axiom_line, globals, declared, defined, procedure_by, procedure_from, procedure, implementation, declaration_by, declaration, declarations, ended, program}
use Rattle.sd_parse.proofs.Texts.{same_is}
use Rattle.sd_parse.proofs.ExpressionComplete.{want_reads, name_reads, name_class, same_classes}
use Rattle.sd_parse.proofs.Lists as lists
use Rattle.sd_parse.proofs.Lists.{join_all, all_complete}
use Rattle.sd_parse.proofs.Rows.{Low, Next, next, next_some, next_first, next_reads, other_class, apart, row_complete, joined_complete, enclosed_complete}
use Rattle.sd_parse.proofs.NameLaws.{names_complete, names_first}
use Rattle.sd_parse.proofs.TypeLaws.{deeper_reads, type_first, type_high, type_complete}
use Rattle.sd_parse.proofs.ClauseLaws.{attributes_complete, claim_first, claim_some, claim_complete}
use Rattle.sd_parse.proofs.StatementComplete.{statements_read, statement_complete, begins_first, begins_none}
use Rattle.sd_parse.proofs.ProgramTexts.{GroupText, group_text}

-- ---- variables

typed_first : {u : Tokens} {xs : List Text} {T : Sort} {h : ℕ} (rest : Tokens) → Typed u xs T h → class_of (ahead (u ++ rest)) ≡ s.Name
typed_first rest (p.typed {c = k} {u = u} {v = v} m i f) = ap (λ z. class_of (ahead z)) (append_assoc u (k ∷ v) rest) ∙ names_first (k ∷ (v ++ rest)) m

vars_first : {u : Tokens} {xs : List Var} {h : ℕ} (rest : Tokens) → Vars u xs h → class_of (ahead (u ++ rest)) ≡ s.Name
vars_first rest (p.one g) = typed_first rest g
vars_first rest (p.more {c = k} {u = u} {v = v} g i m) = ap (λ z. class_of (ahead z)) (append_assoc u (k ∷ v) rest) ∙ typed_first (k ∷ (v ++ rest)) g

-- what begins with a name begins with no attribute
named_first : (ts : Tokens) → class_of (ahead ts) ≡ s.Name → is s.OpenAttribute (class_of (ahead ts)) ≡ false
named_first ts e = apart s.Name s.OpenAttribute ts e (λ f. cc)

line_first : {d : ℕ} (u : Tokens) (xs : List Var) (h : ℕ) (rest : Tokens) → VarLine d u xs h → class_of (ahead (u ++ rest)) ≡ s.Var
line_first u xs h rest (p.line i l m j) = i.same

line_some : {d : ℕ} (u : Tokens) (xs : List Var) (h : ℕ) → VarLine d u xs h → 0 < length u
line_some u xs h (p.line i l m j) = omega arith

module _ (d : ℕ) where
  typed_reads : {u : Tokens} {xs : List Text} {T : Sort} {h : ℕ} (rest : Tokens) → Typed u xs T h → h ≤ d → typed d (u ++ rest) ≡ Got (xs, T) rest
  unfolding typed
  typed_reads rest (p.typed {c = k} {u = u} {v = v} {xs = xs} {T = T} {h = h} m i f) low =
      let first : names (u ++ k ∷ (v ++ rest)) ≡ Got xs (k ∷ (v ++ rest)) = names_complete (k ∷ (v ++ rest)) (apart s.Colon s.Comma (k ∷ (v ++ rest)) i.same (λ e. cc)) m in
      let second : type_of d (v ++ rest) ≡ Got T rest = type_complete d v T h rest f low in
      simp append_assoc (rw (first, want_reads s.Colon k (v ++ rest) i, second) refl)

  pair_reads : {u : Tokens} {xs : List Text} {T : Sort} {h : ℕ} (rest : Tokens) → Typed u xs T h → h ≤ d → group d (u ++ rest) ≡ Got (variables xs T) rest
  unfolding group
  pair_reads {u = u} {xs = xs} {T = T} rest g low = let r : typed d (u ++ rest) ≡ Got (xs, T) rest = typed_reads rest g low in rw r refl

  group_reads : (u : Tokens) (xs : List Var) (rest : Tokens) → Low GroupText d u xs → group d (u ++ rest) ≡ Got xs rest
  group_reads u xs rest g = by_text g.spelt g.low
    where
      by_text : {u : Tokens} {xs : List Var} {h : ℕ} → GroupText u xs h → h ≤ d → group d (u ++ rest) ≡ Got xs rest
      by_text (group_text f) low = pair_reads rest f low

  next_groups : {t : Token} {u : Tokens} {xs : List Var} {h : ℕ} → Vars u xs h → Is s.Comma t → h ≤ d → lists.Joined (Next (Low GroupText d)) (t ∷ u) xs
  next_groups {t = t} (p.one {u = u} {xs = xs} {T = T} {h = h} g) i low = subst (λ z. lists.Joined (Next (Low GroupText d)) (t ∷ u) z) (append-nil (variables xs T))
      (subst (λ z. lists.Joined (Next (Low GroupText d)) (t ∷ z) (variables xs T ++ [])) (append-nil u) (lists.more (next i (record { height = h; spelt = group_text g; low = low })) lists.none))
  next_groups {t = t} (p.more {c = k} {h = h} g j m) i low = lists.more (next i (record { height = h; spelt = group_text g; low = omega arith })) (next_groups {t = k} m j (omega arith))

  more_groups_read : (acc : List Var) {u : Tokens} {xs : List Var} (rest : Tokens) → is s.Comma (class_of (ahead rest)) ≡ false → lists.Joined (Next (Low GroupText d)) u xs → more_groups d acc (u ++ rest) ≡ Got (acc ++ xs) rest
  unfolding more_groups
  more_groups_read acc rest e m = all_complete (Next (Low GroupText d)) (is s.Comma) (reading.next (group d)) join_lists (λ _. Unit {0}) (next_some (Low GroupText d) (group d)) (next_first (Low GroupText d) (group d)) (λ rest e. tt)
      (next_reads (Low GroupText d) (group d) (λ _. Unit {0}) (λ u x rest f e. group_reads u x rest f)) rest tt e (join_all (Next (Low GroupText d)) (is s.Comma) m acc)

  vars_read : {u : Tokens} {xs : List Var} {h : ℕ} (rest : Tokens) → is s.Comma (class_of (ahead rest)) ≡ false → Vars u xs h → h ≤ d → vars d (u ++ rest) ≡ Got xs rest
  unfolding vars
  vars_read rest e (p.one {u = u} {xs = xs} {T = T} g) low = rw (pair_reads rest g low) (more_groups_read (variables xs T) rest e lists.none ∙ ap (λ xs. Got xs rest) (append-nil (variables xs T)))
  vars_read rest e (p.more {c = k} {u = u} {v = v} {xs = xs} {T = T} g i m) low =
      let first : group d (u ++ k ∷ (v ++ rest)) ≡ Got (variables xs T) (k ∷ (v ++ rest)) = pair_reads (k ∷ (v ++ rest)) g (omega arith) in
      simp append_assoc (rw (first) (more_groups_read (variables xs T) {u = k ∷ v} rest e (next_groups m i (omega arith))))

  line_reads : (u : Tokens) (xs : List Var) (h : ℕ) (rest : Tokens) → VarLine d u xs h → h ≤ d → var_line d (u ++ rest) ≡ Got xs rest
  unfolding var_line
  line_reads y xs h rest (p.line {t = t} {c = k} {a = a} {u = u} i l m j) low =
      let split : (a ++ (u ++ k ∷ [])) ++ rest ≡ a ++ (u ++ k ∷ rest) = append_assoc a (u ++ k ∷ []) rest ∙ ap (λ z. a ++ z) (append_assoc u (k ∷ []) rest) in
      let first : attributes d (a ++ (u ++ k ∷ rest)) ≡ Got tt (u ++ k ∷ rest) = attributes_complete d (u ++ k ∷ rest) (named_first (u ++ k ∷ rest) (vars_first (k ∷ rest) m)) l in
      let second : vars d (u ++ k ∷ rest) ≡ Got xs (k ∷ rest) = vars_read (k ∷ rest) (apart s.Semi s.Comma (k ∷ rest) j.same (λ e. cc)) m low in
      rw (split, first, second, want_reads s.Semi k rest j) refl

  locals_read : (rest : Tokens) → is s.Var (class_of (ahead rest)) ≡ false → {u : Tokens} {xs : List Var} {h : ℕ} → Joined (VarLine d) u xs h → h ≤ d → locals d (u ++ rest) ≡ Got xs rest
  unfolding locals
  locals_read rest e m low = joined_complete (VarLine d) d (is s.Var) (var_line d) line_some (λ u xs h rest f. same_classes (class_of (ahead (u ++ rest))) s.Var (line_first u xs h rest f)) line_reads rest e m low

  -- ---- heads

  listed_none : (k : Token) (rest : Tokens) → Is s.Close k → listed_parameters d (k ∷ rest) ≡ Got [] rest
  unfolding listed_parameters
  listed_none k rest i = ap (λ x. parameters_by d x (k ∷ rest)) i.same

  listed_some : (ts rest : Tokens) (xs : List Var) → class_of (ahead ts) ≡ s.Name → and_then (vars d ts) (λ xs ts. and_then (want s.Close ts) (λ _ ts. Got xs ts)) ≡ Got xs rest → listed_parameters d ts ≡ Got xs rest
  unfolding listed_parameters
  listed_some ts rest xs e r = ap (λ x. parameters_by d x ts) e ∙ r

  parameters_read : {u : Tokens} {xs : List Var} {h : ℕ} (rest : Tokens) → Parameters u xs h → h ≤ d → parameters d (u ++ rest) ≡ Got xs rest
  unfolding parameters
  parameters_read rest (p.none {o = o} {c = k} i j) low = rw (want_reads s.Open o (k ∷ rest) i) (listed_none k rest j)
  parameters_read rest (p.some {o = o} {c = k} {u = u} {xs = xs} i m j) low =
      let r : vars d (u ++ k ∷ rest) ≡ Got xs (k ∷ rest) = vars_read (k ∷ rest) (apart s.Close s.Comma (k ∷ rest) j.same (λ e. cc)) m low in
      simp append_assoc (rw (want_reads s.Open o (u ++ k ∷ rest) i) (listed_some (u ++ k ∷ rest) rest xs (vars_first (k ∷ rest) m) (rw (r, want_reads s.Close k rest j) refl)))

  no_results : (x : TokenClass) (ts : Tokens) → (x ≡ s.Returns → ⊥) → results_by d x ts ≡ Got [] ts
  no_results s.Returns ts f = absurd (f refl)
  no_results _ ts f = refl

  results_read : {u : Tokens} {xs : List Var} {h : ℕ} (rest : Tokens) → (class_of (ahead rest) ≡ s.Returns → ⊥) → Results u xs h → h ≤ d → results d (u ++ rest) ≡ Got xs rest
  unfolding results
  results_read rest no_returns p.none low = no_results (class_of (ahead rest)) rest no_returns
  results_read rest no_returns (p.some {r = t} {u = u} i m) low = ap (λ x. results_by d x (t ∷ (u ++ rest))) i.same ∙ parameters_read rest m low

  head_reads : {u : Tokens} {f : Head} {h : ℕ} (rest : Tokens) → (class_of (ahead rest) ≡ s.Returns → ⊥) → HeadText u f h → h ≤ d → head d (u ++ rest) ≡ Got f rest
  unfolding head
  head_reads rest no_returns (p.head {n = n} {f = f} {u = u} {v = v} {ins = ins} {outs = outs} i m o) low =
      let first : parameters d (u ++ (v ++ rest)) ≡ Got ins (v ++ rest) = parameters_read (v ++ rest) m (omega arith) in
      let second : results d (v ++ rest) ≡ Got outs rest = results_read rest no_returns o (omega arith) in
      simp append_assoc (rw (name_reads f n (u ++ (v ++ rest)) i, first, second) refl)

head_first : {u : Tokens} {f : Head} {h : ℕ} (rest : Tokens) → HeadText u f h → class_of (ahead (u ++ rest)) ≡ s.Name
head_first rest (p.head {n = n} {f = f} i m o) = name_class f n i

-- ---- clauses

modified_none : (k : Token) (rest : Tokens) → Is s.Semi k → modified (k ∷ rest) ≡ Got [] (k ∷ rest)
unfolding modified
modified_none k rest i = ap (λ x. modified_by x (k ∷ rest)) i.same

modified_some : {u : Tokens} {xs : List Text} (k : Token) (rest : Tokens) → Names u xs → Is s.Semi k → modified (u ++ k ∷ rest) ≡ Got xs (k ∷ rest)
unfolding modified
modified_some {u = u} k rest m i = ap (λ x. modified_by x (u ++ k ∷ rest)) (names_first (k ∷ rest) m) ∙ names_complete (k ∷ rest) (apart s.Semi s.Comma (k ∷ rest) i.same (λ e. cc)) m

spec_first : {d : ℕ} (u : Tokens) (x : Spec) (h : ℕ) (rest : Tokens) → SpecText d u x h → begins_spec (class_of (ahead (u ++ rest))) ≡ true
spec_first u x h rest (p.modifies_none i j) = ap begins_spec i.same
spec_first u x h rest (p.modifies i m j) = ap begins_spec i.same
spec_first u x h rest (p.requires (c.checked m)) = ap begins_spec (claim_first rest m)
spec_first u x h rest (p.requires (c.free i m)) = ap begins_spec i.same
spec_first u x h rest (p.ensures (c.checked m)) = ap begins_spec (claim_first rest m)
spec_first u x h rest (p.ensures (c.free i m)) = ap begins_spec i.same

pub spec_some : {d : ℕ} (u : Tokens) (x : Spec) (h : ℕ) → SpecText d u x h → 0 < length u
spec_some u x h (p.requires (c.checked m)) = claim_some m
spec_some u x h (p.ensures (c.checked m)) = claim_some m
spec_some u x h _ = omega arith

-- what begins with neither a clause nor a brace doesn't follow a head with a body
pub specs_first : {d : ℕ} {u : Tokens} {xs : List Spec} {h : ℕ} (y : TokenClass) (rest : Tokens) → begins_spec y ≡ false → (s.OpenBrace ≡ y → ⊥) → class_of (ahead rest) ≡ s.OpenBrace → Row (SpecText d) u xs h → class_of (ahead (u ++ rest)) ≡ y → ⊥
specs_first y rest other brace e w.none g = brace (sym e ∙ g)
specs_first y rest other brace e (w.more {u = u} {v = v} {x = x} {h = h} f m) g =
    let z : begins_spec (class_of (ahead (u ++ (v ++ rest)))) ≡ true = spec_first u x h (v ++ rest) f in
    let q : begins_spec y ≡ true = ap begins_spec (sym g ∙ ap (λ z. class_of (ahead z)) (append_assoc u v rest)) ∙ z in
    cc

statements_first : {d : ℕ} {u : Tokens} {ss : List Stmt} {h : ℕ} (k : Token) (rest : Tokens) → Statements d u ss h → Is s.CloseBrace k → class_of (ahead (u ++ k ∷ rest)) ≡ s.Var → ⊥
statements_first k rest st.none i e = let z : s.CloseBrace ≡ s.Var = sym i.same ∙ e in cc
statements_first k rest (st.more {u = u} {v = v} f m) i e = begins_none (class_of (ahead (u ++ (v ++ k ∷ rest)))) s.Var (begins_first (v ++ k ∷ rest) f) refl (ap (λ z. class_of (ahead z)) (sym (append_assoc u v (k ∷ rest))) ∙ e)

body_first : {d : ℕ} {u : Tokens} {x : Body} {h : ℕ} (rest : Tokens) → BodyText d u x h → class_of (ahead (u ++ rest)) ≡ s.OpenBrace
body_first rest (p.braces i m q j) = i.same

module _ (d : ℕ) where
  required_reads : (f : Bool) {u : Tokens} {k : Place × Expr} {h : ℕ} (rest : Tokens) → Claim d s.Requires u k h → h ≤ d → condition d f (u ++ rest) ≡ Got (spec.Requires f k.1) rest
  unfolding condition required
  required_reads f {u = u} {k = k} rest m low =
      let r : claim d d s.Requires (u ++ rest) ≡ Got k rest = claim_complete d d s.Requires rest m low in
      ap (λ x. condition_by d f x (u ++ rest)) (claim_first rest m) ∙ rw r refl

  ensured_reads : (f : Bool) {u : Tokens} {k : Place × Expr} {h : ℕ} (rest : Tokens) → Claim d s.Ensures u k h → h ≤ d → condition d f (u ++ rest) ≡ Got (spec.Ensures f k.1) rest
  unfolding condition ensured
  ensured_reads f {u = u} {k = k} rest m low =
      let r : claim d d s.Ensures (u ++ rest) ≡ Got k rest = claim_complete d d s.Ensures rest m low in
      ap (λ x. condition_by d f x (u ++ rest)) (claim_first rest m) ∙ rw r refl

  free_reads : (t : Token) (ts rest : Tokens) (x : Spec) → Is s.Free t → condition d true ts ≡ Got x rest → clause d (t ∷ ts) ≡ Got x rest
  unfolding clause free_condition
  free_reads t ts rest x i r = ap (λ y. clause_by d y (t ∷ ts)) i.same ∙ r

  checked_reads : (ts rest : Tokens) (x : Spec) (y : TokenClass) → class_of (ahead ts) ≡ y → clause_by d y ts ≡ condition d false ts → condition d false ts ≡ Got x rest → clause d ts ≡ Got x rest
  unfolding clause
  checked_reads ts rest x y e b r = ap (λ y. clause_by d y ts) e ∙ b ∙ r

  modifies_reads : (t : Token) (ts rest : Tokens) (x : Spec) → Is s.Modifies t → modifies (t ∷ ts) ≡ Got x rest → clause d (t ∷ ts) ≡ Got x rest
  unfolding clause
  modifies_reads t ts rest x i r = ap (λ y. clause_by d y (t ∷ ts)) i.same ∙ r

  modifies_none_reads : (t k : Token) (rest : Tokens) → Is s.Semi k → modifies (t ∷ k ∷ rest) ≡ Got (spec.Modifies []) rest
  unfolding modifies
  modifies_none_reads t k rest j = rw (modified_none k rest j, want_reads s.Semi k rest j) refl

  modifies_some_reads : (t k : Token) {u : Tokens} {xs : List Text} (rest : Tokens) → Names u xs → Is s.Semi k → modifies (t ∷ (u ++ k ∷ rest)) ≡ Got (spec.Modifies xs) rest
  unfolding modifies
  modifies_some_reads t k rest m j = rw (modified_some k rest m j, want_reads s.Semi k rest j) refl

  spec_reads : (u : Tokens) (x : Spec) (h : ℕ) (rest : Tokens) → SpecText d u x h → h ≤ d → clause d (u ++ rest) ≡ Got x rest
  spec_reads y x h rest (p.modifies_none {t = t} {c = k} i j) low = modifies_reads t (k ∷ rest) rest (spec.Modifies []) i (modifies_none_reads t k rest j)
  spec_reads y x h rest (p.modifies {t = t} {c = k} {u = u} {xs = xs} i m j) low =
      ap (λ ts. clause d (t ∷ ts)) (append_assoc u (k ∷ []) rest) ∙ modifies_reads t (u ++ k ∷ rest) rest (spec.Modifies xs) i (modifies_some_reads t k rest m j)
  spec_reads y x h rest (p.requires (c.checked {u = u} m)) low = checked_reads (u ++ rest) rest x s.Requires (claim_first rest m) refl (required_reads false rest m low)
  spec_reads y x h rest (p.requires (c.free {f = t} {u = u} i m)) low = free_reads t (u ++ rest) rest x i (required_reads true rest m low)
  spec_reads y x h rest (p.ensures (c.checked {u = u} m)) low = checked_reads (u ++ rest) rest x s.Ensures (claim_first rest m) refl (ensured_reads false rest m low)
  spec_reads y x h rest (p.ensures (c.free {f = t} {u = u} i m)) low = free_reads t (u ++ rest) rest x i (ensured_reads true rest m low)

  clauses_read : (rest : Tokens) → begins_spec (class_of (ahead rest)) ≡ false → {u : Tokens} {xs : List Spec} {h : ℕ} → Row (SpecText d) u xs h → h ≤ d → clauses d (u ++ rest) ≡ Got xs rest
  unfolding clauses
  clauses_read rest e m low = row_complete (SpecText d) d begins_spec (clause d) (λ _. Unit {0}) spec_some spec_first (λ rest e. tt) (λ u x h rest f low e. spec_reads u x h rest f low) rest tt e m low

  body_reads : {u : Tokens} {x : Body} {h : ℕ} (rest : Tokens) → BodyText d u x h → h ≤ d → body d (u ++ rest) ≡ Got x rest
  unfolding body
  body_reads rest (p.braces {o = o} {c = k} {u = u} {v = v} {xs = xs} {ss = ss} i m q j) low =
      let first : locals d (u ++ (v ++ k ∷ rest)) ≡ Got xs (v ++ k ∷ rest) = locals_read d (v ++ k ∷ rest) (other_class (class_of (ahead (v ++ k ∷ rest))) s.Var (statements_first k rest q j)) m (omega arith) in
      let second : statements d d (statement d d) (v ++ k ∷ rest) ≡ Got ss (k ∷ rest) = statements_read d d (statement d d) (statement_complete d d) (k ∷ rest) q (omega arith) j.same in
      simp append_assoc (rw (want_reads s.OpenBrace o (u ++ (v ++ k ∷ rest)) i, first, second, want_reads s.CloseBrace k rest j) refl)

-- ---- constants and functions

uniqueness_plain : (ts : Tokens) → class_of (ahead ts) ≡ s.Name → uniqueness ts ≡ Got false ts
unfolding uniqueness
uniqueness_plain ts e = ap (λ x. uniqueness_by x ts) e

uniqueness_unique : (t : Token) (ts : Tokens) → Is s.Unique t → uniqueness (t ∷ ts) ≡ Got true ts
unfolding uniqueness
uniqueness_unique t ts i = ap (λ x. uniqueness_by x (t ∷ ts)) i.same

uniqueness_reads : {u : Tokens} {b : Bool} (rest : Tokens) → Uniqueness u b → class_of (ahead rest) ≡ s.Name → uniqueness (u ++ rest) ≡ Got b rest
uniqueness_reads rest p.plain e = uniqueness_plain rest e
uniqueness_reads rest (p.unique {t = t} i) e = uniqueness_unique t rest i

uniqueness_first : {u : Tokens} {b : Bool} (rest : Tokens) → Uniqueness u b → class_of (ahead rest) ≡ s.Name → is s.OpenAttribute (class_of (ahead (u ++ rest))) ≡ false
uniqueness_first rest p.plain e = named_first rest e
uniqueness_first rest (p.unique {t = t} i) e = apart s.Unique s.OpenAttribute (t ∷ rest) i.same (λ f. cc)

-- No colon follows.
abbrev NoColon : Tokens → Type 0
NoColon rest = is s.Colon (class_of (ahead rest)) ≡ false

type_other : (x y : TokenClass) → begins_type x ≡ true → begins_type y ≡ false → x ≡ y → ⊥
type_other x y e f g = let z : begins_type y ≡ true = ap begins_type (sym g) ∙ e in cc

argument_first : (u : Tokens) (T : Sort) (h : ℕ) (rest : Tokens) → Argument u T h → begins_type (class_of (ahead (u ++ rest))) ≡ true
argument_first u T h rest (p.bare f) = type_first rest f
argument_first u T h rest (p.named {n = n} {x = x} i j f) = ap begins_type (name_class x n i)

module _ (d : ℕ) where
  no_colon : (x : Text) (y : TokenClass) (ts : Tokens) → is s.Colon y ≡ false → named_by d x y ts ≡ Got (sort.Named x) ts
  no_colon x s.Colon ts e = absurd (let z = same_classes s.Colon s.Colon refl in cc)
  no_colon x _ ts e = refl

  alone_reads : (x : Text) (ts : Tokens) → NoColon ts → after_name d x ts ≡ Got (sort.Named x) ts
  unfolding after_name
  alone_reads x ts e = no_colon x (class_of (ahead ts)) ts e

  colon_reads : (x : Text) (k : Token) (u : Tokens) (T : Sort) (h : ℕ) (rest : Tokens) → Is s.Colon k → TypeText u T h → h ≤ d → after_name d x (k ∷ (u ++ rest)) ≡ Got T rest
  unfolding after_name
  colon_reads x k u T h rest i f low = ap (λ y. named_by d x y (k ∷ (u ++ rest))) i.same ∙ type_complete d u T h rest f low

  named_reads : (n : Token) (x : Text) (ts rest : Tokens) (T : Sort) → 1 ≤ d → IsName x n → after_name d x ts ≡ Got T rest → argument d (n ∷ ts) ≡ Got T rest
  unfolding argument named_argument
  named_reads n x ts rest T high i r = ap (λ y. argument_by d y (n ∷ ts)) (name_class x n i) ∙ deeper_reads d (λ ts. and_then (name ts) (λ x ts. after_name d x.0 ts)) T (n ∷ ts) rest high (rw (name_reads x n ts i) r)

  bare_reads : (ts rest : Tokens) (T : Sort) (x : TokenClass) → class_of (ahead ts) ≡ x → argument_by d x ts ≡ type_of d ts → type_of d ts ≡ Got T rest → argument d ts ≡ Got T rest
  unfolding argument
  bare_reads ts rest T x e b r = ap (λ y. argument_by d y ts) e ∙ b ∙ r

  argument_reads : (u : Tokens) (T : Sort) (h : ℕ) (rest : Tokens) → Argument u T h → h ≤ d → NoColon rest → argument d (u ++ rest) ≡ Got T rest
  argument_reads y T h rest (p.bare (ty.int {t = t} i)) low e = bare_reads (t ∷ rest) rest sort.Int s.Int i.same refl (type_complete d (t ∷ []) sort.Int 1 rest (ty.int i) low)
  argument_reads y T h rest (p.bare (ty.bool {t = t} i)) low e = bare_reads (t ∷ rest) rest sort.Bool s.Bool i.same refl (type_complete d (t ∷ []) sort.Bool 1 rest (ty.bool i) low)
  argument_reads y T h rest (p.bare (ty.named {t = t} {x = x} i)) low e = named_reads t x rest rest (sort.Named x) low i (alone_reads x rest e)
  argument_reads y T h rest (p.bare (ty.map {o = o} {c = k} {u = u} {v = v} i f j g)) low e = bare_reads ((o ∷ u ++ k ∷ v) ++ rest) rest T s.OpenBracket i.same refl (type_complete d (o ∷ u ++ k ∷ v) T h rest (ty.map i f j g) low)
  argument_reads y T h rest (p.named {n = n} {c = k} {x = x} {u = u} i j f) low e = named_reads n x (k ∷ (u ++ rest)) rest T (let z = type_high f in omega arith) i (colon_reads x k u T h rest j f low)

  arguments_read : (rest : Tokens) → {u : Tokens} {xs : List Sort} {h : ℕ} → Enclosed Argument u xs h → h ≤ d → enclosed (argument d) (u ++ rest) ≡ Got xs rest
  arguments_read rest m low = enclosed_complete Argument d (argument d) NoColon (λ rest e. apart s.Comma s.Colon rest (same_is (class_of (ahead rest)) s.Comma e) (λ e. cc)) argument_reads
      (λ rest e. apart s.Close s.Colon rest e (λ e. cc)) (λ u T h rest f e. type_other (class_of (ahead (u ++ rest))) s.Close (argument_first u T h rest f) refl e) rest m low

  result_reads : {u : Tokens} {T : Sort} {h : ℕ} (rest : Tokens) → ResultType u T h → h ≤ d → result_type d (u ++ rest) ≡ Got T rest
  unfolding result_type returned_type colon_type
  result_reads rest (p.colon {c = k} {u = u} {T = T} {h = h} i f) low = ap (λ x. result_by d x (k ∷ (u ++ rest))) i.same ∙ rw (want_reads s.Colon k (u ++ rest) i) (type_complete d u T h rest f low)
  result_reads rest (p.returns {r = r} {o = o} {c = k} {u = u} {T = T} {h = h} i j f l) low =
      let first : argument d (u ++ k ∷ rest) ≡ Got T (k ∷ rest) = argument_reads u T h (k ∷ rest) f low (apart s.Close s.Colon (k ∷ rest) l.same (λ e. cc)) in
      ap (λ x. result_by d x (r ∷ o ∷ ((u ++ k ∷ []) ++ rest))) i.same ∙ simp append_assoc (rw (want_reads s.Open o (u ++ k ∷ rest) j, first, want_reads s.Close k rest l) refl)

-- ---- declarations

declaration_first : {d : ℕ} (u : Tokens) (x : Decl) (h : ℕ) (rest : Tokens) → Declaration d u x h → begins_declaration (class_of (ahead (u ++ rest))) ≡ true
declaration_first u x h rest (p.types i l m j) = ap begins_declaration i.same
declaration_first u x h rest (p.constants i l b m j) = ap begins_declaration i.same
declaration_first u x h rest (p.function i l n m o j) = ap begins_declaration i.same
declaration_first u x h rest (p.axiom_text m) = ap begins_declaration (claim_first rest m)
declaration_first u x h rest (p.globals m) = ap begins_declaration (line_first u _ h rest m)
declaration_first u x h rest (p.declared i l m j n) = ap begins_declaration i.same
declaration_first u x h rest (p.defined i l m n b) = ap begins_declaration i.same
declaration_first u x h rest (p.implementation i l m b) = ap begins_declaration i.same

pub declaration_some : {d : ℕ} (u : Tokens) (x : Decl) (h : ℕ) → Declaration d u x h → 0 < length u
declaration_some u x h (p.axiom_text m) = claim_some m
declaration_some u x h (p.globals m) = line_some u _ h m
declaration_some u x h _ = omega arith

-- No clause follows.
abbrev NoSpec : Tokens → Type 0
NoSpec rest = begins_spec (class_of (ahead rest)) ≡ false

no_spec : (x : TokenClass) → begins_declaration x ≡ true → begins_spec x ≡ false
no_spec s.Type e = refl
no_spec _ e = cc

module _ (d : ℕ) where
  by_word : (x : TokenClass) (ts : Tokens) → class_of (ahead ts) ≡ x → declaration d ts ≡ declaration_by d x ts
  unfolding declaration
  by_word x ts e = ap (λ y. declaration_by d y ts) e

  types_read : (t k : Token) (a u : Tokens) (xs : List Text) (rest : Tokens) → Attributes d a → Names u xs → Is s.Semi k → types d ((t ∷ a ++ (u ++ k ∷ [])) ++ rest) ≡ Got (decl.Types xs) rest
  unfolding types
  types_read t k a u xs rest l m j =
      let split : (a ++ (u ++ k ∷ [])) ++ rest ≡ a ++ (u ++ k ∷ rest) = append_assoc a (u ++ k ∷ []) rest ∙ ap (λ z. a ++ z) (append_assoc u (k ∷ []) rest) in
      let first : attributes d (a ++ (u ++ k ∷ rest)) ≡ Got tt (u ++ k ∷ rest) = attributes_complete d (u ++ k ∷ rest) (named_first (u ++ k ∷ rest) (names_first (k ∷ rest) m)) l in
      let second : names (u ++ k ∷ rest) ≡ Got xs (k ∷ rest) = names_complete (k ∷ rest) (apart s.Semi s.Comma (k ∷ rest) j.same (λ e. cc)) m in
      rw (split, first, second, want_reads s.Semi k rest j) refl

  constants_read : (t k : Token) (a u v : Tokens) (b : Bool) (xs : List Text) (T : Sort) (h : ℕ) (rest : Tokens) → Attributes d a → Uniqueness u b → Typed v xs T h → h ≤ d → Is s.Semi k → constants d ((t ∷ a ++ (u ++ (v ++ k ∷ []))) ++ rest) ≡ Got (decl.Const b xs T) rest
  unfolding constants
  constants_read t k a u v b xs T h rest l m g low j =
      let split : (a ++ (u ++ (v ++ k ∷ []))) ++ rest ≡ a ++ (u ++ (v ++ k ∷ rest)) =
      append_assoc a (u ++ (v ++ k ∷ [])) rest ∙ ap (λ z. a ++ z) (append_assoc u (v ++ k ∷ []) rest ∙ ap (λ z. u ++ z) (append_assoc v (k ∷ []) rest)) in
      let word : class_of (ahead (v ++ k ∷ rest)) ≡ s.Name = typed_first (k ∷ rest) g in
      let first : attributes d (a ++ (u ++ (v ++ k ∷ rest))) ≡ Got tt (u ++ (v ++ k ∷ rest)) = attributes_complete d (u ++ (v ++ k ∷ rest)) (uniqueness_first (v ++ k ∷ rest) m word) l in
      let second : uniqueness (u ++ (v ++ k ∷ rest)) ≡ Got b (v ++ k ∷ rest) = uniqueness_reads (v ++ k ∷ rest) m word in
      let third : typed d (v ++ k ∷ rest) ≡ Got (xs, T) (k ∷ rest) = typed_reads d (k ∷ rest) g low in
      rw (split, first, second, third, want_reads s.Semi k rest j) refl

  function_reads : (t n k : Token) (f : Text) (a u v : Tokens) (xs : List Sort) (T : Sort) (h m : ℕ) (rest : Tokens) → Attributes d a → IsName f n → Enclosed Argument u xs h → ResultType v T m → max h m ≤ d → Is s.Semi k
      → function d ((t ∷ a ++ (n ∷ u ++ (v ++ k ∷ []))) ++ rest) ≡ Got (decl.Function f xs T) rest
  unfolding function
  function_reads t n k f a u v xs T h m rest l i g r low j =
      let split : (a ++ (n ∷ u ++ (v ++ k ∷ []))) ++ rest ≡ a ++ (n ∷ (u ++ (v ++ k ∷ rest))) =
      append_assoc a (n ∷ u ++ (v ++ k ∷ [])) rest ∙ ap (λ z. a ++ (n ∷ z)) (append_assoc u (v ++ k ∷ []) rest ∙ ap (λ z. u ++ z) (append_assoc v (k ∷ []) rest)) in
      let first : attributes d (a ++ (n ∷ (u ++ (v ++ k ∷ rest)))) ≡ Got tt (n ∷ (u ++ (v ++ k ∷ rest))) = attributes_complete d (n ∷ (u ++ (v ++ k ∷ rest))) (named_first (n ∷ (u ++ (v ++ k ∷ rest))) (name_class f n i)) l in
      let second : enclosed (argument d) (u ++ (v ++ k ∷ rest)) ≡ Got xs (v ++ k ∷ rest) = arguments_read d (v ++ k ∷ rest) g (omega arith) in
      let third : result_type d (v ++ k ∷ rest) ≡ Got T (k ∷ rest) = result_reads d (k ∷ rest) r (omega arith) in
      rw (split, first, name_reads f n (u ++ (v ++ k ∷ rest)) i, second, third, want_reads s.Semi k rest j) refl

  axiom_reads : {u : Tokens} {x : Place × Expr} {h : ℕ} (rest : Tokens) → Claim d s.Axiom u x h → h ≤ d → axiom_line d (u ++ rest) ≡ Got (decl.Axiom x.1) rest
  unfolding axiom_line
  axiom_reads {u = u} {x = x} rest m low = let r : claim d d s.Axiom (u ++ rest) ≡ Got x rest = claim_complete d d s.Axiom rest m low in rw r refl

  globals_read : {u : Tokens} {xs : List Var} {h : ℕ} (rest : Tokens) → VarLine d u xs h → h ≤ d → globals d (u ++ rest) ≡ Got (decl.Globals xs) rest
  unfolding globals
  globals_read {u = u} {xs = xs} {h = h} rest m low = let r : var_line d (u ++ rest) ≡ Got xs rest = line_reads d u xs h rest m low in rw r refl

  declared_reads : (f : Head) (k : Token) {v : Tokens} {xs : List Spec} {h : ℕ} (rest : Tokens) → Is s.Semi k → Row (SpecText d) v xs h → h ≤ d → NoSpec rest → procedure_from d f (k ∷ (v ++ rest)) ≡ Got (decl.Procedure (record { head = f; specs = xs; body = None })) rest
  unfolding procedure_from declared
  declared_reads f k {v = v} {xs = xs} rest i m low e =
      let r : clauses d (v ++ rest) ≡ Got xs rest = clauses_read d rest e m low in
      ap (λ x. procedure_by d f x (k ∷ (v ++ rest))) i.same ∙ rw r refl

  not_declared : (f : Head) (x : TokenClass) (ts : Tokens) → (x ≡ s.Semi → ⊥) → procedure_by d f x ts ≡ defined d f ts
  not_declared f s.Semi ts g = absurd (g refl)
  not_declared f _ ts g = refl

  defined_reads : (f : Head) {v y : Tokens} {xs : List Spec} {b : Body} {h k : ℕ} (rest : Tokens) → Row (SpecText d) v xs h → BodyText d y b k → max h k ≤ d → procedure_from d f (v ++ (y ++ rest)) ≡ Got (decl.Procedure (record { head = f; specs = xs; body = Some b })) rest
  unfolding procedure_from defined
  defined_reads f {v = v} {y = y} {xs = xs} {b = b} rest m q low =
      let brace : class_of (ahead (y ++ rest)) ≡ s.OpenBrace = body_first rest q in
      let first : clauses d (v ++ (y ++ rest)) ≡ Got xs (y ++ rest) = clauses_read d (y ++ rest) (ap begins_spec brace) m (omega arith) in
      let second : body d (y ++ rest) ≡ Got b rest = body_reads d rest q (omega arith) in
      not_declared f (class_of (ahead (v ++ (y ++ rest)))) (v ++ (y ++ rest)) (specs_first s.Semi (y ++ rest) refl (λ e. cc) brace m) ∙ rw (first, second) refl

  -- a procedure or an implementation up to the end of its head
  to_head : (a u ts : Tokens) (f : Head) (h : ℕ) → Attributes d a → HeadText u f h → h ≤ d → (class_of (ahead ts) ≡ s.Returns → ⊥) → attributes d (a ++ (u ++ ts)) ≡ Got tt (u ++ ts)
  to_head a u ts f h l m low no_returns = attributes_complete d (u ++ ts) (named_first (u ++ ts) (head_first ts m)) l

  procedure_reads : (t : Token) (a u ts rest : Tokens) (f : Head) (h : ℕ) (x : Decl) → Attributes d a → HeadText u f h → h ≤ d → (class_of (ahead ts) ≡ s.Returns → ⊥) → procedure_from d f ts ≡ Got x rest → procedure d (t ∷ (a ++ (u ++ ts))) ≡ Got x rest
  unfolding procedure
  procedure_reads t a u ts rest f h x l m low no_returns r =
      let first : attributes d (a ++ (u ++ ts)) ≡ Got tt (u ++ ts) = to_head a u ts f h l m low no_returns in
      let second : head d (u ++ ts) ≡ Got f ts = head_reads d ts no_returns m low in
      rw (first, second) r

  implementation_reads : (t : Token) (a u v rest : Tokens) (f : Head) (b : Body) (h k : ℕ) → Attributes d a → HeadText u f h → BodyText d v b k → max h k ≤ d → implementation d (t ∷ (a ++ (u ++ (v ++ rest)))) ≡ Got (decl.Implementation (record { head = f; body = b })) rest
  unfolding implementation
  implementation_reads t a u v rest f b h k l m q low =
      let no_returns : class_of (ahead (v ++ rest)) ≡ s.Returns → ⊥ = λ e. let z : s.OpenBrace ≡ s.Returns = sym (body_first rest q) ∙ e in cc in
      let first : attributes d (a ++ (u ++ (v ++ rest))) ≡ Got tt (u ++ (v ++ rest)) = to_head a u (v ++ rest) f h l m (omega arith) no_returns in
      let second : head d (u ++ (v ++ rest)) ≡ Got f (v ++ rest) = head_reads d (v ++ rest) no_returns m (omega arith) in
      let third : body d (v ++ rest) ≡ Got b rest = body_reads d rest q (omega arith) in
      rw (first, second, third) refl

  declaration_reads : (y : Tokens) (x : Decl) (h : ℕ) (rest : Tokens) → Declaration d y x h → h ≤ d → NoSpec rest → declaration d (y ++ rest) ≡ Got x rest
  declaration_reads y x h rest (p.types {t = t} {c = k} {a = a} {u = u} {xs = xs} i l m j) low e = by_word s.Type (y ++ rest) i.same ∙ types_read t k a u xs rest l m j
  declaration_reads y x h rest (p.constants {t = t} {c = k} {a = a} {u = u} {v = v} {b = b} {xs = xs} {T = T} i l o g j) low e = by_word s.Const (y ++ rest) i.same ∙ constants_read t k a u v b xs T h rest l o g low j
  declaration_reads y x h rest (p.function {t = t} {n = n} {c = k} {f = f} {a = a} {u = u} {v = v} {xs = xs} {T = T} {h = m} {k = o} i l q g r j) low e =
      by_word s.Function (y ++ rest) i.same ∙ function_reads t n k f a u v xs T m o rest l q g r low j
  declaration_reads y x h rest (p.axiom_text m) low e = by_word s.Axiom (y ++ rest) (claim_first rest m) ∙ axiom_reads rest m low
  declaration_reads y x h rest (p.globals {xs = xs} m) low e = by_word s.Var (y ++ rest) (line_first y xs h rest m) ∙ globals_read rest m low
  declaration_reads y x h rest (p.declared {t = t} {c = k} {a = a} {u = u} {v = v} {p = f} {h = m} i l g j n) low e =
      let split : (a ++ (u ++ k ∷ v)) ++ rest ≡ a ++ (u ++ k ∷ (v ++ rest)) = append_assoc a (u ++ k ∷ v) rest ∙ ap (λ z. a ++ z) (append_assoc u (k ∷ v) rest) in
      by_word s.Procedure (y ++ rest) i.same ∙ ap (λ ts. procedure d (t ∷ ts)) split
      ∙ procedure_reads t a u (k ∷ (v ++ rest)) rest f m x l g (omega arith) (λ o. let z : s.Semi ≡ s.Returns = sym j.same ∙ o in cc) (declared_reads f k rest j n (omega arith) e)
  declaration_reads y x h rest (p.defined {t = t} {a = a} {u = u} {v = v} {w = q} {p = f} {h = m} i l g n b) low e =
      let split : (a ++ (u ++ (v ++ q))) ++ rest ≡ a ++ (u ++ (v ++ (q ++ rest))) = append_assoc a (u ++ (v ++ q)) rest ∙ ap (λ z. a ++ z) (append_assoc u (v ++ q) rest ∙ ap (λ z. u ++ z) (append_assoc v q rest)) in
      by_word s.Procedure (y ++ rest) i.same ∙ ap (λ ts. procedure d (t ∷ ts)) split
      ∙ procedure_reads t a u (v ++ (q ++ rest)) rest f m x l g (omega arith) (specs_first s.Returns (q ++ rest) refl (λ e. cc) (body_first rest b) n) (defined_reads f rest n b (omega arith))
  declaration_reads y x h rest (p.implementation {t = t} {a = a} {u = u} {v = v} {p = f} {b = b} {h = m} {k = o} i l g q) low e =
      let split : (a ++ (u ++ v)) ++ rest ≡ a ++ (u ++ (v ++ rest)) = append_assoc a (u ++ v) rest ∙ ap (λ z. a ++ z) (append_assoc u v rest) in
      by_word s.Implementation (y ++ rest) i.same ∙ ap (λ ts. implementation d (t ∷ ts)) split ∙ implementation_reads t a u v rest f b m o l g q low

  declarations_read : {u : Tokens} {xs : List Decl} {h : ℕ} → Row (Declaration d) u xs h → h ≤ d → declarations d (u ++ []) ≡ Got xs []
  unfolding declarations
  declarations_read m low = row_complete (Declaration d) d begins_declaration (declaration d) NoSpec declaration_some declaration_first (λ rest e. no_spec (class_of (ahead rest)) e) declaration_reads [] refl refl m low

  -- What is spelled is read.
  pub program_complete : (u : Tokens) (xs : List Decl) (h : ℕ) → Row (Declaration d) u xs h → h ≤ d → program d u ≡ Got xs []
  unfolding program ended
  program_complete u xs h m low =
      let r : declarations d u ≡ Got xs [] = ap (declarations d) (sym (append-nil u)) ∙ declarations_read m low in
      rw r refl
