use Rattle.std.proofs.Common.{◌≡◌, ◌∙◌, ◌+◌, ◌++◌, [], length, refl, sym, ap, subst, arith, length-append}
use Rattle.apd_files.specs.Reading.{IsRead, Adds, StopsAt}
use Rattle.apd_files.specs.Faults.{IsFaultOf, Tells}
use Rattle.apd_files.proofs.Blocks.{IsRead-opens, IsRead-gives}
use Rattle.apd_files.proofs.Kept.{Collects-none}
use Rattle.apd_files.proofs.Spoiled.{IsFaultOf-block}
use Rattle.apd_files.proofs.inputs.code.digits.Goals as goal

pub loop-seen-init : goal.loop-seen-init
loop-seen-init g c =
    let held = g.F.Files.held in
    let left = g.F.Files.left c.open.new.self in
    let opened = IsRead-opens (held c.args.files.now c.args.path.now) left c.in_default.ensures.ok in
    let later = subst (λ f. IsRead [] f left) (ap (λ h. h c.args.path.now) (sym c.open.ensures.same)) opened in
    ([], later, Collects-none c.args.most c.new-digits.result.items c.new-digits.ensures.items, refl, refl)

pub returns-in-Err-add_block-clause-fault : goal.returns-in-Err-add_block-clause-fault
returns-in-Err-add_block-clause-fault g c =
    let held = g.F.Files.held c.open.new.self in
    let inv = c.loop-seen.invariant in
    let block = c.in-Ok.block.items in
    let fault = c.in-Err-add_block.fault in
    let stops = subst (λ l. StopsAt c.args.most c.loop-seen.digits.items l fault) c.as_slice.ensures.value c.in-Err-add_block.ensures.stops in
    let tells = subst (λ l. Tells l fault c.fault_in.result) c.as_slice-in-Err-add_block.ensures.value c.fault_in.ensures.is in
    let r = IsFaultOf-block c.args.kind held c.args.path.now c.args.most inv.0 block c.loop-seen.digits.items (g.F.Files.left c.loop-seen.files) (g.F.Files.left c.next_block.new.self) fault c.fault_in.result inv.1 c.in-Ok.ensures.ok inv.2 stops tells in
    subst (λ h. IsFaultOf c.args.kind h c.args.path.now c.fault_in.result) c.open.ensures.same r

pub loop-seen-preserved : goal.loop-seen-preserved
loop-seen-preserved g c =
    let inv = c.loop-seen.invariant in
    let block = c.in-Ok.block.items in
    let file = g.F.Files.held c.open.new.self c.args.path.now in
    let read = IsRead-gives inv.0 block file (g.F.Files.left c.loop-seen.files) (g.F.Files.left c.next_block.new.self) inv.1 c.in-Ok.ensures.ok in
    let adds = subst (λ l. Adds c.args.most l c.loop-seen.digits.items c.add_block.new.digits.items) c.as_slice.ensures.value c.in_default-add_block.ensures.adds in
    let len : length (inv.0 ++ block) ≡ c.loop-seen.seen + c.len.result = simp length-append (omega (arith, inv.3, c.len.ensures, c.in-Ok.block.ok.0)) in
    (inv.0 ++ block, read, adds.adds inv.0 inv.2, len, c.next_block.ensures.same ∙ inv.4)
