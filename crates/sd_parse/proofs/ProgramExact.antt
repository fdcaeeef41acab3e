-- The reader of programs answers by the rule of refusals.
use Rattle.std.proofs.Common.{◌≡◌, ℕ, suc, ◌+◌, ◌≤◌, List, [], ◌∷◌, ap, sym, ◌∙◌, arith}
use Rattle.sd_base.specs.declared.Place.{Place}
use Rattle.sd_ast.specs.declared.Decl.{Decl}
use Rattle.sd_ast.specs.declared.Program.{Program}
use Rattle.sd_parse.specs.Grammar.{Tokens}
use Rattle.sd_parse.specs.Rows.{Row}
use Rattle.sd_parse.specs.Programs.{Declaration, Spells}
use Rattle.sd_parse.specs.Refusals.{IsSyntax, IsDeep, place_of}
use Rattle.sd_parse.specs.Reading.{Syntax, Deep, Step, Got, Bad, Reader, and_then}
use Rattle.sd_parse.specs.ReadingPrograms.{declarations, ended, program}
use Rattle.sd_parse.proofs.Algebra.{Answers, bind, begins_map, stop, wide}
use Rattle.sd_parse.proofs.Lifts.{lift_more}
use Rattle.sd_parse.proofs.Widening.{Widens, sequence, got}
use Rattle.sd_parse.proofs.Exact.{Exact, syntax_at, deep_at, read_is}
use Rattle.sd_parse.proofs.Rows.{Low}
use Rattle.sd_parse.proofs.Limits.{declarations_more}
use Rattle.sd_parse.proofs.ProgramAnswers.{program_answers}
use Rattle.sd_parse.proofs.ProgramComplete.{program_complete}
use Rattle.sd_parse.proofs.ProgramWidening.{widen_program}

abbrev pub tree : List Decl → Program
tree xs = record { decls = xs }

-- the reader of a whole text, with its program
abbrev pub whole : ℕ → Reader Program
whole d ts = and_then (program d ts) (λ xs ts. Got (tree xs) ts)

to_spells : (d : ℕ) (u : Tokens) (xs : List Decl) → Low (Row (Declaration d)) d u xs → Spells d u (tree xs)
to_spells d u xs w = record { height = w.height; spelled = w.spelt; low = w.low }

spells_more : (d k : ℕ) (u : Tokens) (P : Program) → Spells k u P → Spells (d + k) u P
spells_more d k u P w = record { height = w.height; spelled = declarations_more (omega arith) w.spelled; low = let z = w.low in omega arith }

whole_answers : (d : ℕ) → 1 ≤ d → (ts : Tokens) → Answers (Spells d) (Spells (wide d)) ts (whole d ts)
whole_answers d pos ts = record {
  fact = bind (Low (Row (Declaration d)) d) (Low (Row (Declaration (wide d))) (wide d)) (Spells d) (Spells (wide d)) [] ts (program d ts) (λ xs ts. Got (tree xs) ts) (program_answers d pos ts).fact
      (λ u b. begins_map (Low (Row (Declaration d)) d) (Spells d) tree u (to_spells d) b)
      (λ u b. begins_map (Low (Row (Declaration (wide d))) (wide d)) (Spells (wide d)) tree u (to_spells (wide d)) b)
      (λ xs u rest w. stop (Spells d) (Spells (wide d)) u rest (tree xs) (to_spells d u xs w));
}

pub whole_complete : (d : ℕ) (u : Tokens) (P : Program) → Spells d u P → whole d u ≡ Got P []
whole_complete d u P w = ap (λ s. and_then s (λ xs ts. Got (tree xs) ts)) (program_complete d u P.decls w.height w.spelled w.low)

got_end : (s : Step (List Decl)) (P : Program) (rest : Tokens) → and_then (and_then s ended) (λ xs ts. Got (tree xs) ts) ≡ Got P rest → rest ≡ []
unfolding ended
got_end (Got xs []) P rest e = cc
got_end (Got xs (t ∷ r)) P rest e = absurd (cc)
got_end (Bad k r) P rest e = absurd (cc)

whole_ends : (d : ℕ) (ts : Tokens) (P : Program) (rest : Tokens) → whole d ts ≡ Got P rest → rest ≡ []
unfolding program
whole_ends d ts P rest e = got_end (declarations d ts) P rest e

widen_whole : (d : ℕ) → Widens (whole d) (whole (suc d))
widen_whole d = sequence (widen_program d) (λ xs. got (tree xs))

pub whole_exact : (limit : ℕ) → 1 ≤ limit → Exact Spells limit whole
whole_exact limit pos = record {
  grows = spells_more;
  answers = whole_answers limit pos;
  complete = whole_complete;
  local = λ d. (widen_whole d).local;
  lifts = λ k d ts. lift_more whole (λ d ts. (widen_whole d).lifts ts) k d ts;
  ends = whole_ends limit;
}

-- where the reader of programs refuses
pub program_syntax : (limit : ℕ) → 1 ≤ limit → (ts : Tokens) (end : Place) (rest : Tokens) → program limit ts ≡ Bad Syntax rest → IsSyntax Spells limit ts end (place_of end rest)
program_syntax limit pos ts end rest e = syntax_at (whole_exact limit pos) ts end rest (ap (λ s. and_then s (λ xs ts. Got (tree xs) ts)) e)

pub program_deep : (limit : ℕ) → 1 ≤ limit → (ts : Tokens) (end : Place) (rest : Tokens) → program limit ts ≡ Bad Deep rest → IsDeep Spells limit ts (place_of end rest)
program_deep limit pos ts end rest e = deep_at (whole_exact limit pos) ts end rest (ap (λ s. and_then s (λ xs ts. Got (tree xs) ts)) e)

-- What the reader of programs gives is spelled.
pub program_spells : (limit : ℕ) → 1 ≤ limit → (ts : Tokens) (xs : List Decl) (rest : Tokens) → program limit ts ≡ Got xs rest → Spells limit ts (tree xs)
program_spells limit pos ts xs rest e = read_is (whole_exact limit pos) ts (tree xs) rest (ap (λ s. and_then s (λ xs ts. Got (tree xs) ts)) e)

pub one_tree : (d : ℕ) (ts : Tokens) (P Q : Program) → Spells d ts P → Spells d ts Q → P ≡ Q
one_tree d ts P Q p q = let same : Got P [] ≡ Got Q [] = sym (whole_complete d ts P p) ∙ whole_complete d ts Q q in cc
