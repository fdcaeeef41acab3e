-- No text spells two lines, or two lists of lines.
use Rattle.std.proofs.Common.{◌≡◌, ℕ, ◌^◌, ◌<◌, List, [], ◌∷◌, ◌++◌, length, refl, sym, ap, ◌∙◌, arith, length-append}
use Rattle.std.specs.Prelude.{codes}
use Rattle.std.specs.List.{AllByRecursion}
use Rattle.std.specs.Fmt.{decimal}
use Rattle.std.proofs.lemmas.Fmt.{decimal_injective}
use Rattle.std.proofs.lemmas.List.{append_cancel_right}
use Rattle.hex.specs.Hex.{encode_lower, decode_of}
use Rattle.hex.proofs.HexLemmas.{decode_of-encode_lower, decode_of-same}
use Rattle.sd_cert.specs.declared.line.CertState.{CertState}
use Rattle.sd_cert.specs.declared.line.CertState.TheVariants.{Open, Refused}
use Rattle.sd_cert.specs.declared.line.Line.{Line}
use Rattle.sd_cert.specs.Fields.{IsDigest}
use Rattle.sd_cert.specs.Lines.{line_text, IsLine, state_text}
use Rattle.sd_cert.specs.Text.{lines_text}
use Rattle.sd_cert.proofs.FormLemmas.{pair, one-line}
use Rattle.sd_cert.proofs.LineLemmas.{open_not_refused}
use Rattle.sd_cert.proofs.NumberLemmas.{numbers-injective}
use Rattle.sd_cert.proofs.TextLemmas.{no_feed, first_line-unique}

digest-injective : (c d : List ℕ) → IsDigest c → IsDigest d → encode_lower c ≡ encode_lower d → c ≡ d
digest-injective c d f g e = decode_of-same (encode_lower c) c d (decode_of-encode_lower c f.bytes) (ap decode_of e ∙ decode_of-encode_lower d g.bytes)

number-injective : (m n : ℕ) → m < 2 ^ 32 → n < 2 ^ 32 → decimal m ≡ decimal n → m ≡ n
number-injective m n f g e = decimal_injective m n (omega arith) (omega arith) e

pair-injective : (i j : ℕ) (s t : CertState) → i < 2 ^ 32 → j < 2 ^ 32 → decimal i ++ state_text s ≡ decimal j ++ state_text t → pair i s ≡ pair j t
pair-injective i j Open Open f g e = ap (λ n. pair n Open) (number-injective i j f g (append_cancel_right (decimal i) (decimal j) (codes " open") e))
pair-injective i j Open Refused f g e = absurd (open_not_refused (decimal i) (decimal j) e)
pair-injective i j Refused Open f g e = absurd (open_not_refused (decimal j) (decimal i) (sym e))
pair-injective i j Refused Refused f g e = ap (λ n. pair n Refused) (number-injective i j f g (append_cancel_right (decimal i) (decimal j) (codes " refused") e))

pub line_text-injective : (l m : Line) → IsLine l → IsLine m → line_text l ≡ line_text m → l ≡ m
line_text-injective = one-line digest-injective pair-injective numbers-injective

pub lines_text-injective : (ls ms : List Line) → AllByRecursion IsLine ls → AllByRecursion IsLine ms → lines_text ls ≡ lines_text ms → ls ≡ ms
lines_text-injective [] [] f g e = refl
lines_text-injective [] (m ∷ ms) f g e = absurd (omega (arith, ap length e, length-append (line_text m) (10 ∷ lines_text ms)))
lines_text-injective (l ∷ ls) [] f g e = absurd (omega (arith, ap length e, length-append (line_text l) (10 ∷ lines_text ls)))
lines_text-injective (l ∷ ls) (m ∷ ms) f g e =
    let parts = first_line-unique (line_text l) (lines_text ls) (line_text m) (lines_text ms) (no_feed l f.0) (no_feed m g.0) e
    in let first : l ≡ m = line_text-injective l m f.0 g.0 parts.0
    in let rest : ls ≡ ms = lines_text-injective ls ms f.1 g.1 parts.1
    in cc
