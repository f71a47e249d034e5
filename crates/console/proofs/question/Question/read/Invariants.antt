use denote.Text.{Utf8}
use denote.Shadow.{shadow}
use Rattle.std.specs.Str.Iter.{split_ascii_whitespace_left}
use Rattle.console.proofs.question.Question.read.Given as goal

abbrev pub invariant-loop-word : goal.invariant-loop-word
invariant-loop-word l = shadow (Utf8 l.word)

abbrev pub decreases-loop-word : goal.decreases-loop-word
decreases-loop-word l = split_ascii_whitespace_left l.words
