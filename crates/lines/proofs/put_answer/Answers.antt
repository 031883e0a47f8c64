use Rattle.std.proofs.Common.{◌≡◌, ◌-◌, length, take, drop, length-drop, arith}
use Rattle.std.proofs.Math.Seq.{take_all}
use Rattle.line.specs.Line.{prints_line, prints_long, takes}
use Rattle.lines.proofs.LineLaws.{printed_by}
use Rattle.lines.proofs.put_answer.Goals as goal

pub returns-in-Err-Line : goal.returns-in-Err-Line
returns-in-Err-Line c =
    let x = rw (c.in-Err-Line.is, c.in-Err-Line.field-0-is) at c.asked_by.ensures in
    printed_by c.args.input.now prints_line x.0 (record { put = c.put_text.ensures; short = omega arith })

pub returns-in-Err-Long : goal.returns-in-Err-Long
returns-in-Err-Long c =
    let x = rw (c.in-Err-Long.is, c.in-Err-Long.field-0-is) at c.asked_by.ensures in
    printed_by c.args.input.now prints_long x.0 (record { put = c.put_text-in-Err-Long.ensures; short = omega arith })

pub returns-in-Ok : goal.returns-in-Ok
returns-in-Ok c =
    let x = rw c.in-Ok.is at c.asked_by.ensures in
    let s = c.args.input.now in
    let a = c.in-Ok.asked in
    let all : take (length s - a.body) (drop a.body s) ≡ drop a.body s = take_all (length s - a.body) (drop a.body s) (simp length-drop (omega arith)) in
    printed_by s (takes a.track a.year a.quarter (drop a.body s)) x.0 (rw all at c.submit.ensures)
