-- A text has one answer, and a text that only begins a program is refused at its end.
use Rattle.std.proofs.Common.{◌≡◌, ℕ, ◌<◌, ◌≤◌, true, false, List, ◌++◌, length, refl, ap, sym, ◌∙◌, subst, arith, inl, inr}
use Rattle.std.specs.Prelude.{◌≢◌, Bool, nat_le, Result, Ok, Err}
use Rattle.std.proofs.lemmas.Bool.Decides.{nat_tests}
use Rattle.sd_base.specs.declared.Place.{Place}
use Rattle.sd_lex.specs.Pieces.{Bytes}
use Rattle.sd_lex.specs.Tokens as lex
use Rattle.sd_lex.specs.declared.LexError.{LexError}
use Rattle.sd_lex.proofs.Unique.{one_list, one_refusal, not_both}
use Rattle.sd_lex.proofs.Fronts as lexer
use Rattle.sd_ast.specs.declared.Decl.{Decl}
use Rattle.sd_ast.specs.declared.Program.{Program}
use Rattle.sd_parse.specs.declared.answer.ReadError.{ReadError}
use Rattle.sd_parse.specs.declared.answer.ReadError.TheVariants.{NoMemory, TooLong, Lex, Star, Syntax, Deep, TooMany}
use Rattle.sd_parse.specs.Grammar.{Tokens}
use Rattle.sd_parse.specs.Programs.{Spells}
use Rattle.sd_parse.specs.Refusals as rule
use Rattle.sd_parse.specs.Refusals.{Verdict, Read, IsVerdict, place_of}
use Rattle.sd_parse.specs.Counts.{procedures}
use Rattle.sd_parse.specs.Reading as reader
use Rattle.sd_parse.specs.Reading.{Step, Got, Bad}
use Rattle.sd_parse.specs.ReadingPrograms.{program}
use Rattle.sd_parse.specs.Answer.{star_at, end_of, IsStar, IsAnswer, IsParsed, IsReading}
use Rattle.sd_parse.specs.Laws.{OneAnswer, SomeAnswer, MissingAtEnd}
use Rattle.sd_parse.proofs.Exact.{one_verdict}
use Rattle.sd_parse.proofs.Local.{rest_of}
use Rattle.sd_parse.proofs.ProgramWidening.{widen_program}
use Rattle.sd_parse.proofs.ProgramExact.{tree, one_tree, program_spells, program_syntax, program_deep}
use Rattle.sd_parse.proofs.Stars.{all_rise, star_yes, star_no, none_at_end}

module _ (ts : Tokens) (end : Place) where
  one : (v w : Verdict Program) → IsVerdict Spells 200 ts end v → IsVerdict Spells 200 ts end w → v ≡ w
  one v w a b = one_verdict Spells 200 ts end (one_tree 200 ts) v w a b

  few_many : (P Q : Program) → Spells 200 ts P → procedures P.decls ≤ 4096 → Spells 200 ts Q → 4096 < procedures Q.decls → ⊥
  few_many P Q a few b many = let same = ap (λ P. procedures P.decls) (one_tree 200 ts P Q a b) in omega arith

  star_syntax : (p q : Place) → rule.IsSyntax Spells 200 ts end p → IsStar ts p → rule.IsSyntax Spells 200 ts end q → (IsStar ts q → ⊥) → ⊥
  star_syntax p q a h b none = let z = one (rule.Verdict.Syntax p) (rule.Verdict.Syntax q) a b in let same : p ≡ q = cc in none (subst (IsStar ts) same h)

  -- the verdict behind an answer
  abbrev verdict : (r : Result Program ReadError) → IsAnswer ts end r → Verdict Program
  verdict (Ok P) a = Read P
  verdict (Err (Star p)) a = rule.Verdict.Syntax p
  verdict (Err (Syntax p)) a = rule.Verdict.Syntax p
  verdict (Err (Deep p)) a = rule.Verdict.Deep p
  verdict (Err TooMany) a = Read a.0
  verdict (Err _) a = absurd a

  is_verdict : (r : Result Program ReadError) (a : IsAnswer ts end r) → IsVerdict Spells 200 ts end (verdict r a)
  is_verdict (Ok P) a = a.0
  is_verdict (Err (Star p)) a = a.0
  is_verdict (Err (Syntax p)) a = a.0
  is_verdict (Err (Deep p)) a = a
  is_verdict (Err TooMany) a = a.1
  is_verdict (Err _) a = absurd a

  one_parsed : (r q : Result Program ReadError) → IsAnswer ts end r → IsAnswer ts end q → r ≡ q
  one_parsed (Err NoMemory) q a b = absurd a
  one_parsed (Err TooLong) q a b = absurd a
  one_parsed (Err (Lex e)) q a b = absurd a
  one_parsed r (Err NoMemory) a b = absurd b
  one_parsed r (Err TooLong) a b = absurd b
  one_parsed r (Err (Lex e)) a b = absurd b
  one_parsed (Ok P) (Err TooMany) a b = absurd (few_many P b.0 a.0 a.1 b.1 b.2)
  one_parsed (Err TooMany) (Ok Q) a b = absurd (few_many Q a.0 b.0 b.1 a.1 a.2)
  one_parsed (Err (Star p)) (Err (Syntax q)) a b = absurd (star_syntax p q a.0 a.1 b.0 b.1)
  one_parsed (Err (Syntax p)) (Err (Star q)) a b = absurd (star_syntax q p b.0 b.1 a.0 a.1)
  one_parsed r q a b = let z : verdict r a ≡ verdict q b = one (verdict r a) (verdict q b) (is_verdict r a) (is_verdict q b) in cc

-- an answer by its kind
data Kind (bytes : Bytes) (r : Result Program ReadError) : Type 0 where
  long : r ≡ Err TooLong → 16777216 < length bytes → Kind bytes r
  cut_wrong : (e : LexError) → r ≡ Err (Lex e) → length bytes ≤ 16777216 → lex.Refused 0 bytes e → Kind bytes r
  parsed : IsParsed bytes r → Kind bytes r

kind_of : (bytes : Bytes) (r : Result Program ReadError) → IsReading bytes r → r ≢ Err NoMemory → Kind bytes r
kind_of bytes (Ok P) a m = parsed a
kind_of bytes (Err NoMemory) a m = absurd (m refl)
kind_of bytes (Err TooLong) a m = long refl a
kind_of bytes (Err (Lex e)) a m = cut_wrong e refl a.0 a.1
kind_of bytes (Err _) a m = parsed a

one_kind : (bytes : Bytes) (r q : Result Program ReadError) → Kind bytes r → Kind bytes q → r ≡ q
one_kind bytes r q (long e l) (long f k) = e ∙ sym f
one_kind bytes r q (long e l) (cut_wrong x f k w) = absurd (omega arith)
one_kind bytes r q (long e l) (parsed w) = absurd (let k = w.short in omega arith)
one_kind bytes r q (cut_wrong x e l v) (long f k) = absurd (omega arith)
one_kind bytes r q (cut_wrong x e l v) (cut_wrong y f k w) = e ∙ ap (λ x. Err (Lex x)) (one_refusal v w) ∙ sym f
one_kind bytes r q (cut_wrong x e l v) (parsed w) = absurd (not_both w.cut v)
one_kind bytes r q (parsed v) (long f k) = absurd (let l = v.short in omega arith)
one_kind bytes r q (parsed v) (cut_wrong y f k w) = absurd (not_both v.cut w)
one_kind bytes r q (parsed v) (parsed w) = one_parsed v.tokens (end_of bytes) r q v.answer (subst (λ ts. IsAnswer ts (end_of bytes) q) (one_list w.cut v.cut) w.answer)

pub one_answer : OneAnswer
one_answer bytes r q a b m n = one_kind bytes r q (kind_of bytes r a m) (kind_of bytes q b n)

-- ---- some answer

of_parsed : (bytes : Bytes) (r : Result Program ReadError) → IsParsed bytes r → IsReading bytes r
of_parsed bytes (Ok P) w = w
of_parsed bytes (Err NoMemory) w = tt
of_parsed bytes (Err TooLong) w = absurd w.answer
of_parsed bytes (Err (Lex e)) w = absurd w.answer
of_parsed bytes (Err _) w = w

module _ (bytes : Bytes) (ts : Tokens) (cut : lex.Tokens 0 bytes ts) where
  abbrev Answered : Type 0
  Answered = (r : Result Program ReadError) × IsAnswer ts (end_of bytes) r

  read_answer : (xs : List Decl) → Spells 200 ts (tree xs) → (b : Bool) → nat_le (procedures xs) 4096 ≡ b → Answered
  read_answer xs w true e = (Ok (tree xs), (w, grind (arith, nat_tests)))
  read_answer xs w false e = (Err TooMany, (tree xs, w, grind (arith, nat_tests)))

  syntax_answer : (u rest : Tokens) → ts ≡ u ++ rest → rule.IsSyntax Spells 200 ts (end_of bytes) (place_of (end_of bytes) rest) → (b : Bool) → star_at ts (length u) ≡ b → Answered
  syntax_answer u rest split a true e = (Err (Star (place_of (end_of bytes) rest)), (a, star_yes ts u (end_of bytes) rest split e))
  syntax_answer u rest split a false e = (Err (Syntax (place_of (end_of bytes) rest)), (a, star_no ts u (end_of bytes) rest split (all_rise cut) e))

  step_answer : (step : Step (List Decl)) → program 200 ts ≡ step → Answered
  step_answer (Got xs rest) e = read_answer xs (program_spells 200 (omega arith) ts xs rest e) (nat_le (procedures xs) 4096) refl
  step_answer (Bad reader.Syntax rest) e =
      let w = (widen_program 200).local.suffix ts in
      syntax_answer w.0 rest (w.1 ∙ ap (λ s. w.0 ++ rest_of s) e) (program_syntax 200 (omega arith) ts (end_of bytes) rest e) (star_at ts (length w.0)) refl
  step_answer (Bad reader.Deep rest) e = (Err (Deep (place_of (end_of bytes) rest)), program_deep 200 (omega arith) ts (end_of bytes) rest e)

pub some_answer : SomeAnswer
some_answer bytes = by_length (nat_le (length bytes) 16777216) refl
  where
    by_length : (b : Bool) → nat_le (length bytes) 16777216 ≡ b → (r : Result Program ReadError) × IsReading bytes r × (r ≢ Err NoMemory)
    by_length false e = (Err TooLong, grind (arith, nat_tests), λ z. cc)
    by_length true e =
        let short : length bytes ≤ 16777216 = grind (arith, nat_tests) in
        elim (lexer.some_answer bytes) [
          | inl t ↦
              let w = step_answer bytes t.0 t.1 (program 200 t.0) refl in
              (w.0, of_parsed bytes w.0 (record { short = short; tokens = t.0; cut = t.1; answer = w.1 }), λ z. subst (IsAnswer t.0 (end_of bytes)) z w.1)
          | inr r ↦ (Err (Lex r.0), (short, r.1), λ z. cc)
        ]

-- ---- a token is missing at the end

pub missing_at_end : MissingAtEnd
missing_at_end bytes ts short cut begun none = record { short = short; tokens = ts; cut = cut; answer = (rule.missing_at_end begun none, none_at_end ts (end_of bytes) (all_rise cut)) }
