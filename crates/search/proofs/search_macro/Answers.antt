use Rattle.std.proofs.Common.{rules, arith, ap, Err, ◌∙◌, length}
use Rattle.letters.specs.Editions.{first_edition}
use Rattle.letters.proofs.Theory.CapacityLaws.{capacity_fits}
use Rattle.verdict_theory.specs.Verdict.{breaking, failing}
use Rattle.search.proofs.Theory.MacroSearch.{capacity_most, points_within, packable, told_incoherent, told_failing}
use Rattle.search.proofs.search_macro.Goals as goal

pub search_pairs-requires-clause-most : goal.search_pairs-requires-clause-most
search_pairs-requires-clause-most c =
    let z = c.capacity-n.ensures in
    let q = capacity_most (length c.args.table.now) in
    omega arith

pub search_pairs-requires-clause-fits : goal.search_pairs-requires-clause-fits
search_pairs-requires-clause-fits c =
    let z = c.capacity-n.ensures in
    let r = capacity_fits first_edition (omega arith) (length c.args.table.now) in
    omega arith

pub search_pairs-requires-clause-within : goal.search_pairs-requires-clause-within
search_pairs-requires-clause-within c = points_within c.args.program c.requires.0 c.requires.1

pub pack-requires : goal.pack-requires
pack-requires c =
    let a = c.args in
    let s = c.search_pairs in
    let n = c.capacity-n in
    let (x, y, z) = packable a.program a.table.now a.output.now n.result s.result s.new.table n.ensures s.ensures.value s.ensures.table c.requires
    c.in-Err-Breaking.count c.in-Err-Breaking.d breaking (c.in-Err-Breaking.is ∙ ap Err c.in-Err-Breaking.field-0-is) in
    record { few = x; fits = y; older = z }

pub pack-requires-in-Err-Failing : goal.pack-requires-in-Err-Failing
pack-requires-in-Err-Failing c =
    let a = c.args in
    let s = c.search_pairs in
    let n = c.capacity-n in
    let (x, y, z) = packable a.program a.table.now a.output.now n.result s.result s.new.table n.ensures s.ensures.value s.ensures.table c.requires
    c.in-Err-Failing.count c.in-Err-Failing.d failing (c.in-Err-Failing.is ∙ ap Err c.in-Err-Failing.field-0-is) in
    record { few = x; fits = y; older = z }

pub returns-in-Err-Breaking : goal.returns-in-Err-Breaking
returns-in-Err-Breaking c =
    let a = c.args in
    let s = c.search_pairs in
    let n = c.capacity-n in
    let k = c.pack in
    let z = c.deliver_incoherent in
    told_incoherent a.program a.table.now a.output.now n.result s.result s.new.table n.ensures s.ensures.value s.ensures.table c.requires
    c.in-Err-Breaking.count c.in-Err-Breaking.d k.result k.ensures.trace (search rules) z.result z.new.output
    (c.in-Err-Breaking.is ∙ ap Err c.in-Err-Breaking.field-0-is) z.ensures

pub returns-in-Err-Failing : goal.returns-in-Err-Failing
returns-in-Err-Failing c =
    let a = c.args in
    let s = c.search_pairs in
    let n = c.capacity-n in
    let k = c.pack-in-Err-Failing in
    let z = c.deliver_failing in
    told_failing a.program a.table.now a.output.now n.result s.result s.new.table n.ensures s.ensures.value s.ensures.table c.requires
    c.in-Err-Failing.count c.in-Err-Failing.d k.result k.ensures.trace (search rules) z.result z.new.output
    (c.in-Err-Failing.is ∙ ap Err c.in-Err-Failing.field-0-is) z.ensures
