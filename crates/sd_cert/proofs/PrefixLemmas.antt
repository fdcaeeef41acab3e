-- The lines of a body, one pair further.
use Rattle.std.proofs.Common.{◌≡◌, ℕ, suc, ◌+◌, List, [], ◌∷◌, ◌++◌, map, length, sym, ap, ◌∙◌, arith, append_assoc, length-append}
use Rattle.std.specs.Prelude.{Option, Some, None}
use Rattle.std.specs.List.{flat_map}
use Rattle.std.proofs.lemmas.List.{append-nil, map-append}
use Rattle.sd_kernel.specs.declared.Step.TheVariants.{Rows as RowsStep}
use Rattle.sd_kernel.specs.declared.RowLine.{RowLine}
use Rattle.sd_kernel.specs.declared.Proved.{Proved}
use Rattle.sd_cert.specs.declared.digest.Digests.{Digests}
use Rattle.sd_cert.specs.declared.line.CertState.{CertState}
use Rattle.sd_cert.specs.declared.line.Line.{Line}
use Rattle.sd_cert.specs.declared.certificate.CertPair.{CertPair}
use Rattle.sd_cert.specs.declared.prefix.PartialProof.{PartialProof}
use Rattle.sd_cert.specs.declared.prefix.PartialPair.{PartialPair}
use Rattle.sd_cert.specs.declared.line.Line.TheVariants.{Pairs, Pair, Rows, Row}
use Rattle.sd_cert.specs.Certificates.{step_lines, proved_lines, pair_lines}
use Rattle.sd_cert.specs.Prefixes.{proof_lines, body_lines, digest_lines}

pub pair_lines-push : (i : ℕ) (ps : List CertPair) (p : CertPair) → pair_lines i (ps ++ p ∷ []) ≡ pair_lines i ps ++ Pair (i + length ps) p.state ∷ flat_map proved_lines p.proved
pair_lines-push i [] p =
    let here : i ≡ i + 0 = omega arith
    in ap (λ n. Pair n p.state ∷ (flat_map proved_lines p.proved ++ [])) here ∙ ap (λ t. Pair (i + 0) p.state ∷ t) (append-nil (flat_map proved_lines p.proved))
pair_lines-push i (q ∷ ps) p =
    let place : (i + 1) + length ps ≡ i + length (q ∷ ps) = omega arith
    in ap (λ t. Pair i q.state ∷ (flat_map proved_lines q.proved ++ t)) (pair_lines-push (i + 1) ps p ∙ ap (λ n. pair_lines (i + 1) ps ++ Pair n p.state ∷ flat_map proved_lines p.proved) place)
    ∙ ap (λ t. Pair i q.state ∷ t) (sym (append_assoc (flat_map proved_lines q.proved) (pair_lines (i + 1) ps) (Pair (i + length (q ∷ ps)) p.state ∷ flat_map proved_lines p.proved)))

-- ---- a step more

step-added : (pairs : List CertPair) (state : CertState) (proved : List Proved) (proof longer : PartialProof) (more : List Line) → proof_lines (Some longer) ≡ proof_lines (Some proof) ++ more
    → body_lines pairs (Some (record { state = state; proved = proved; proof = Some longer })) ≡ body_lines pairs (Some (record { state = state; proved = proved; proof = Some proof })) ++ more
step-added pairs state proved proof longer more e =
    let before = flat_map proved_lines proved in
    ap (λ t. pair_lines 0 pairs ++ Pair (length pairs) state ∷ (before ++ t)) e
    ∙ ap (λ t. pair_lines 0 pairs ++ Pair (length pairs) state ∷ t) (sym (append_assoc before (proof_lines (Some proof)) more))
    ∙ sym (append_assoc (pair_lines 0 pairs) (Pair (length pairs) state ∷ (before ++ proof_lines (Some proof))) more)

-- the last row of a rows step ends the step
pub rows_closed : (d : Digests) (count : ℕ) (pairs : List CertPair) (state : CertState) (proved : List Proved) (proof longer : PartialProof) (rows made : List RowLine) (row : RowLine) (later : ℕ) → made ≡ rows ++ row ∷ [] → later ≡ 0
    → proof_lines (Some longer) ≡ proof_lines (Some proof) ++ step_lines (RowsStep made)
    → digest_lines d ++ Pairs count ∷ body_lines pairs (Some (record { state = state; proved = proved; proof = Some longer })) ≡ (digest_lines d ++ Pairs count ∷ (body_lines pairs (Some (record { state = state; proved = proved; proof = Some proof })) ++ Rows (length rows + suc later) ∷ map Row rows)) ++ Row row ∷ []
rows_closed d count pairs state proved proof longer rows made row later is last e =
    let before = body_lines pairs (Some (record { state = state; proved = proved; proof = Some proof })) in
    let size : length made ≡ length rows + suc later = omega (arith, ap length is, length-append rows (row ∷ [])) in
    let texts : map Row made ≡ map Row rows ++ Row row ∷ [] = ap (map Row) is ∙ map-append Row rows (row ∷ []) in
    ap (λ t. digest_lines d ++ Pairs count ∷ t)
    (step-added pairs state proved proof longer (step_lines (RowsStep made)) e ∙ ap (λ n. before ++ Rows n ∷ map Row made) size ∙ ap (λ t. before ++ Rows (length rows + suc later) ∷ t) texts
    ∙ sym (append_assoc before (Rows (length rows + suc later) ∷ map Row rows) (Row row ∷ [])))

-- ---- a pair more

pub closed_lines : (pairs closed : List CertPair) (last : Option PartialPair) (p : PartialPair) (proved : List Proved) → last ≡ Some p → closed ≡ pairs ++ record { state = p.state; proved = proved } ∷ [] → flat_map proved_lines proved ≡ flat_map proved_lines p.proved ++ proof_lines p.proof → pair_lines 0 closed ≡ body_lines pairs last
closed_lines pairs closed last p proved is e h =
    let place : 0 + length pairs ≡ length pairs = omega arith
    in ap (pair_lines 0) e ∙ pair_lines-push 0 pairs (record { state = p.state; proved = proved })
    ∙ ap (λ n. pair_lines 0 pairs ++ Pair n p.state ∷ flat_map proved_lines proved) place
    ∙ ap (λ t. pair_lines 0 pairs ++ Pair (length pairs) p.state ∷ t) h
    ∙ ap (λ o. body_lines pairs o) (sym is)

pub no_last : (pairs : List CertPair) (last : Option PartialPair) → last ≡ None → pair_lines 0 pairs ≡ body_lines pairs last
no_last pairs last is = sym (append-nil (pair_lines 0 pairs)) ∙ ap (λ o. body_lines pairs o) (sym is)
