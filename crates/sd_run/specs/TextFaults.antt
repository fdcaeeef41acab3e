-- Why a text gave no program.
use Rattle.std.specs.Prelude.{◌≡◌, ◌≢◌, ℕ, List}
use Rattle.sd_parse.specs.declared.answer.ReadError.{ReadError}
use Rattle.sd_parse.specs.declared.answer.ReadError.TheVariants as read
use Rattle.sd_types.specs.declared.refusal.TypeError.{TypeError}
use Rattle.sd_types.specs.declared.refusal.TypeError.TheVariants as kind
use Rattle.sd_run.specs.declared.text.TextFault.{TextFault}
use Rattle.sd_run.specs.declared.text.TextFault.TheVariants.{Memory, Failed, Refused}
use Rattle.sd_run.specs.declared.text.TextRefusal.TheVariants.{Reading, Typing}
use Rattle.sd_run.specs.TextRefusals.{IsTextRefusal}

-- the text of a file that was read has this fault
abbrev pub IsFault : List ℕ → TextFault → Type 0
IsFault bytes Memory = Unit {0}
IsFault bytes Failed = ⊥
IsFault bytes (Refused r) = IsTextRefusal bytes r

abbrev pub IsReadFault : ReadError → TextFault → Type 0
IsReadFault e Memory = e ≡ read.NoMemory
IsReadFault e Failed = ⊥
IsReadFault e (Refused r) = (r ≡ Reading e) × (e ≢ read.NoMemory)

abbrev pub IsTypeFault : TypeError → TextFault → Type 0
IsTypeFault e Memory = e ≡ kind.NoMemory
IsTypeFault e Failed = ⊥
IsTypeFault e (Refused r) = (r ≡ Typing e) × (e ≢ kind.NoMemory)
