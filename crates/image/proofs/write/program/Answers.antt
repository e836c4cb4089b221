-- `image::write::program` meets its contract: the sections one after another are the program.
use mathlib.Core.List.{append_assoc}
use borrow.Author.Rules.{rules}
use Prim.Native.Nat.{◌≤◌}
use native.Mathlib.Omega.{arith}
use lib.ListN.{length}
use Rattle.laws.proofs.Arrays.{length_mapped}
use Rattle.laws.proofs.Codec.{section_wide, number}
use Rattle.image.specs.Image.{program_bytes, CountedProgram}
use Rattle.image.proofs.Entries.{window, season, holiday, rule}
use Rattle.image.proofs.Sections.{begun_with, more_of}
use Rattle.image.proofs.write.program.Goals as goal
use Rattle.image.proofs.write.program.Goals.{Start}

counted : (c : Start) → CountedProgram c.args.p
counted c = search (rules, length_mapped)

within : (c : Start) → 262 ≤ length c.args.bytes.now
within c = omega arith

pub returns : goal.returns
unfolding program_bytes
returns c =
    let n = counted (goal.at.returns c).Start in
    let front = begun_with _ 262 (within (goal.at.returns c).Start) in
    let windows = more_of front _ 512 (section_wide window _ n.windows) c.section.ensures in
    let weeks = more_of windows _ 128 (section_wide (number 1) _ n.weeks) c.section-2.ensures in
    let seasons = more_of weeks _ 32 (section_wide season _ n.seasons) c.section-3.ensures in
    let holidays = more_of seasons _ 128 (section_wide holiday _ n.holidays) c.section-4.ensures in
    let rules = more_of holidays _ 32 (section_wide rule _ n.rules) c.section-5.ensures in
    rw rules.is (simp append_assoc)
