use Rattle.std.proofs.Common.{ℕ, rules}
use mathlib.Core.Path.{sym}
use mathlib.Core.Bool.{false≢true}
use Rattle.soundness.proofs.KeyTexts.{lengths_bad, date_refused, all_read}
use Rattle.soundness.proofs.ProbeTexts.{key_sized, key_made}
use Rattle.soundness.proofs.find.put_probe.Goals as goal

pub returns-then-texts : goal.returns-then-texts
returns-then-texts c =
    let x = c.args.texts.now in
    (sym (lengths_bad x.region.now x.asl.now x.date.now x.id.now c.if-texts.true), λ e. absurd (false≢true e))

pub returns-in_default-read_date : goal.returns-in_default-read_date
returns-in_default-read_date c =
    let x = c.args.texts.now in
    (sym (date_refused x.region.now x.asl.now x.date.now x.id.now _ c.in-Some.ensures _ _ _ c.is_region.ensures c.all_alnum.ensures c.all_id.ensures c.if-texts.false (rw c.in_default-read_date.is at c.read_date.ensures).0), λ e. absurd (false≢true e))

pub pack_key-requires-clause-key_fits : goal.pack_key-requires-clause-key_fits
pack_key-requires-clause-key_fits c =
    let x = c.args.texts.now in
    let r = all_read x.region.now x.asl.now x.date.now x.id.now _ c.in-Some.ensures _ _ _ c.is_region.ensures c.all_alnum.ensures c.all_id.ensures c.if-texts.false c.if-not-is_region-all_alnum.false _ c.in-Some-read_date.ensures.0 in
    rw (r.number, r.day) (key_sized x.region.now x.asl.now x.date.now x.id.now r.allowed)

pub returns : goal.returns
returns c =
    let x = c.args.texts.now in
    let r = all_read x.region.now x.asl.now x.date.now x.id.now _ c.in-Some.ensures _ _ _ c.is_region.ensures c.all_alnum.ensures c.all_id.ensures c.if-texts.false c.if-not-is_region-all_alnum.false _ c.in-Some-read_date.ensures.0 in
    (sym r.allowed, λ e. key_made x.region.now x.asl.now x.date.now x.id.now r.allowed _ _ (rw (r.number, r.day) at c.pack_key.ensures))
