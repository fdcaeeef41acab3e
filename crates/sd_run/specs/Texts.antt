-- The texts of a job.
use Rattle.std.specs.Prelude.{◌≡◌, ℕ, List, [], Option, None}
use Rattle.sha2.specs.Sha256.{sha256}
use Rattle.sd_base.specs.Outside.{WhereKnown}
use Rattle.sd_ast.specs.declared.Program.{Program}
use Rattle.sd_extract.specs.Programs.{core_program}
use Rattle.sd_match.specs.Refusals.{Refusal, refusal_of}
use Rattle.sd_product.specs.Work.{PairedPrograms}
use Rattle.sd_cert.specs.declared.digest.Digests.{Digests}
use Rattle.sd_words.specs.Words.{JobNames}
use Rattle.sd_run.specs.TextRefusals.{IsAccepted}

-- these bytes are the content, where that is known
abbrev pub Holds : Option (List ℕ) → List ℕ → Type 0
Holds known bytes = WhereKnown known (λ b. b ≡ bytes)

-- two texts, and the programs that they spell
pub record Texts : Type 0 where
  pub old_bytes : List ℕ
  pub new_bytes : List ℕ
  pub old : Program
  pub new : Program

-- the core programs of two programs
abbrev pub core_programs : Program → Program → PairedPrograms
core_programs P Q = record { old = core_program P; new = core_program Q }

-- what the texts give to judge
abbrev pub programs_of : Texts → PairedPrograms
programs_of t = core_programs t.old t.new

-- why it can't be judged
abbrev pub clash_of : Texts → Option Refusal
clash_of t = refusal_of (programs_of t).old (programs_of t).new

-- the digests of the texts and of absent settings
abbrev pub digests_of : Texts → Digests
digests_of t = record { old = sha256 t.old_bytes; new = sha256 t.new_bytes; settings = sha256 [] }

-- the two files of the job hold these texts, where that is known
pub record AreRead (content : List ℕ → Option (List ℕ)) (job : JobNames) (t : Texts) : Type 0 where
  pub old_content : Holds (content job.old) t.old_bytes
  pub new_content : Holds (content job.new) t.new_bytes
  pub old_read : IsAccepted t.old_bytes t.old
  pub new_read : IsAccepted t.new_bytes t.new

-- they can be compared
pub record AreMatched (content : List ℕ → Option (List ℕ)) (job : JobNames) (t : Texts) : Type 0 where
  pub are_read : AreRead content job t
  pub no_clash : clash_of t ≡ None
