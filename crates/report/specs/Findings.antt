-- What was found of two texts, and the line that reports it. Assumes nothing.
use Rattle.std.specs.Prelude.{◌≡◌, ℕ, ◌^◌, ◌<◌, ◌≤◌, List, ◌++◌, length, drop, Ok, Err, Result}
use Rattle.book.specs.declared.verdict.Kind.{Kind}
use Rattle.book.specs.declared.verdict.Kind.TheVariants as kinds
use Rattle.book.specs.declared.verdict.Verdict.{Verdict}
use Rattle.report.specs.declared.finding.Rejection.{Rejection}
use Rattle.report.specs.declared.finding.Rejection.TheVariants.{First, Second, Together}
use Rattle.report.specs.Reports.{alike_line, different_line, refused_line}

-- the line of a verdict, by its kind
abbrev pub verdict_line : Kind → Verdict → List ℕ
verdict_line kinds.Alike v = alike_line v
verdict_line kinds.Differs v = different_line v
verdict_line (kinds.Other number) v = different_line v

-- the line that reports what was found; the texts are numbered 1 and 2, and 0 stands for the two together
abbrev pub finding_line : Result Verdict Rejection → List ℕ
finding_line (Ok v) = verdict_line v.kind v
finding_line (Err (First r)) = refused_line 1 r
finding_line (Err (Second r)) = refused_line 2 r
finding_line (Err (Together r)) = refused_line 0 r

-- the numbers of a verdict fit their columns, and the reported word has at most 31 letters
pub record Fits (v : Verdict) : Type 0 where
  pub tried : v.tried < 10 ^ 10
  pub kept : v.kept < 10 ^ 10
  pub length_short : v.length ≤ 31
  pub places : length v.letters ≡ 31
  pub first : v.first < 10 ^ 10
  pub second : v.second < 10 ^ 10

-- a line of so many bytes stands at the front, and later bytes are as before
pub record AtFront (l before : List ℕ) (count : ℕ) (left : List ℕ) : Type 0 where
  pub counted : count ≡ length l
  pub written : left ≡ l ++ drop count before
