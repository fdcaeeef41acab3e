-- What was read within the limit is the whole text.
use Rattle.std.proofs.Common.{◌≡◌, ◌∙◌, sym, ap, ℕ, ◌+◌, ◌≤◌, List, length, take, subst, arith}
use Rattle.std.specs.Prelude.{Result, Ok, Err}
use Rattle.std.proofs.lemmas.List.{take_all, length-take}
use Rattle.sd_ast.specs.declared.Program.{Program}
use Rattle.sd_parse.specs.declared.answer.ReadError.{ReadError}
use Rattle.sd_parse.specs.declared.answer.ReadError.TheVariants.{NoMemory, TooLong, Lex, Star, Syntax, Deep, TooMany}
use Rattle.sd_parse.specs.Answer.{IsReading, IsParsed}
use Rattle.sd_run.specs.declared.text.TextRefusal.{TextRefusal}
use Rattle.sd_run.specs.declared.text.TextRefusal.TheVariants.{Reading, Typing, NotYet}
use Rattle.sd_run.specs.declared.text.Text.{Text}
use Rattle.sd_run.specs.declared.text.TextFault.{TextFault}
use Rattle.sd_run.specs.declared.text.TextFault.TheVariants.{Memory, Failed, Refused}
use Rattle.sd_run.specs.TextRefusals.{IsAccepted, IsTextRefusal}
use Rattle.sd_run.specs.TextFaults.{IsFault}

pub front_is : (limit : ℕ) (bytes read : List ℕ) → read ≡ take (limit + 1) bytes → length read ≤ limit → read ≡ bytes
front_is limit bytes read front short =
    let short' : length bytes ≤ limit = omega (arith, ap length front, length-take (limit + 1) bytes) in
    front ∙ take_all (limit + 1) bytes (omega arith)

module _ (limit : ℕ) (bytes read slice : List ℕ) (is : limit ≡ 16777216) (front : read ≡ take (limit + 1) bytes) (same : slice ≡ read) where
  slice_is : length slice ≤ 16777216 → slice ≡ bytes
  slice_is short = let low : length read ≤ limit = omega (arith, ap length same) in same ∙ front_is limit bytes read front low

  parsed_whole : (r : Result Program ReadError) → IsParsed slice r → IsParsed bytes r
  parsed_whole r h = subst (λ (b : List ℕ). IsParsed b r) (slice_is h.short) h

  pub reading_whole : (r : Result Program ReadError) → IsReading slice r → IsReading bytes r
  reading_whole (Ok P) h = parsed_whole (Ok P) h
  reading_whole (Err NoMemory) h = tt
  reading_whole (Err TooLong) h = omega (arith, ap length same, ap length front, length-take (limit + 1) bytes)
  reading_whole (Err (Lex e)) h = subst (λ (b : List ℕ). IsReading b (Err (Lex e))) (slice_is h.0) h
  reading_whole (Err (Star at)) h = parsed_whole (Err (Star at)) h
  reading_whole (Err (Syntax at)) h = parsed_whole (Err (Syntax at)) h
  reading_whole (Err (Deep at)) h = parsed_whole (Err (Deep at)) h
  reading_whole (Err TooMany) h = parsed_whole (Err TooMany) h

  pub refusal_whole : (r : TextRefusal) → IsTextRefusal slice r → IsTextRefusal bytes r
  refusal_whole (Reading e) h = (reading_whole (Err e) h.0, h.1)
  refusal_whole (Typing e) h = (h.0, reading_whole (Ok h.0) h.1, h.2, h.3)
  refusal_whole NotYet h = (h.0, reading_whole (Ok h.0) h.1, h.2, h.3)

  pub accepted_is : (P : Program) → IsAccepted slice P → bytes ≡ read
  accepted_is P t = sym (slice_is t.read.short) ∙ same

pub accepted_same : (read slice : List ℕ) (P : Program) → slice ≡ read → IsAccepted slice P → IsAccepted read P
accepted_same read slice P same t = subst (λ (b : List ℕ). IsAccepted b P) same t

-- the refusal of a fault
pub fault_refused : (bytes : List ℕ) (f : TextFault) (r : TextRefusal) → ◌≡◌ {A = Result Text TextFault} (Err f) (Err (Refused r)) → IsFault bytes f → IsTextRefusal bytes r
fault_refused bytes Memory r e h = absurd (cc)
fault_refused bytes Failed r e h = absurd h
fault_refused bytes (Refused s) r e h = let same : s ≡ r = cc in subst (λ (x : TextRefusal). IsTextRefusal bytes x) same h
