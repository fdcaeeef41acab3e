use Rattle.std.proofs.Common.{◌≤◌, ◌-◌, ◌++◌, List, length, drop}
use Rattle.sd_lex.specs.declared.token.Token.{Token}
use Rattle.sd_lex.specs.declared.token.LexError.{LexError}
use Rattle.sd_lex.specs.Tokens.{Tokens, Refused}
use Rattle.sd_lex.proofs.lex.tokens.Given as goal

-- What the rest holds is what the whole text holds, after the tokens so far.
abbrev pub invariant-loop-at : goal.invariant-loop-at
invariant-loop-at l = record {
  within : l.at ≤ length l.bytes;
  tokens : (more : List Token) → Tokens l.at (drop l.at l.bytes) more → Tokens 0 l.bytes (l.found.items ++ more);
  refused : (e : LexError) → Refused l.at (drop l.at l.bytes) e → Refused 0 l.bytes e;
}

abbrev pub decreases-loop-at : goal.decreases-loop-at
decreases-loop-at l = length l.bytes - l.at
