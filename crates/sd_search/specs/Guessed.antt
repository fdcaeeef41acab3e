-- what is left of a guess
use Rattle.sd_kernel.specs.declared.step.Proof.{Proof}
use Rattle.sd_term.specs.declared.cube.Cube.{Cube}
use Rattle.sd_search.specs.declared.guessed.Judged.{Judged}
use Rattle.sd_search.specs.declared.guessed.Judged.TheVariants.{Proof as ProofOf, Cube as CubeOf}

abbrev pub IfProof : Judged → (Proof → Type 0) → Type 0
IfProof (ProofOf proof) P = P proof
IfProof _ P = Unit {0}

abbrev pub IfCube : Judged → (Cube → Type 0) → Type 0
IfCube (CubeOf cube) P = P cube
IfCube _ P = Unit {0}
