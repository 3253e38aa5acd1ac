-- `window::command` meets its contract.
use Rattle.std.proofs.Common.{◌≡◌, ℕ, true, false, rules, sym, ap, ◌∙◌}
use Rattle.window.specs.Window.{is_command, performed}
use Rattle.window.specs.Operations.{operation_code}
use Rattle.window.specs.Facts.{command_none, command_done}
use Rattle.window.proofs.command.Goals as goal

pub returns-in_default : goal.returns-in_default
returns-in_default c = let e : is_command c.args.b ≡ false = search rules in command_none c.args.b _ _ _ _ c.put_u8.ensures e c.say.ensures

pub returns : goal.returns
returns c =
    let e : (operation_code c.in-Ok.operation ≡ c.args.b) × (is_command c.args.b ≡ true) = search rules in
    command_done c.args.b _ _ _ _ c.put_u8.ensures e.1 (c.perform-x.ensures ∙ ap (λ (b : ℕ). performed b c.put_u8.new.s c.args.s.now c.args.o.now c.args.c.now) e.0) c.show.ensures.0 c.show.ensures.1
