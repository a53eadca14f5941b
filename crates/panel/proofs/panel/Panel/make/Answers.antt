use Rattle.panel_calls.specs.Calls.{call_of}
use Rattle.panel_calls.specs.Replies.{reply_of}
use Rattle.panel.specs.State.{seen}
use Rattle.panel.proofs.Declining.{declined_same}
use Rattle.panel.proofs.OwnNumbers.{own_number}
use Rattle.panel.proofs.panel.Panel.make.Goals as goal

pub returns : goal.returns
returns g c =
    let facts = c.dispatch.ensures in
    record {
      answer = facts.answer;
      after = facts.after;
      history = facts.history;
      declined =
          declined_same (seen g.M.Memory.bytes c.args.self.now) (seen g.M.Memory.bytes c.dispatch.new.self) (call_of c.args.call) (reply_of c.dispatch.result)
          facts.answer facts.after;
      own = own_number (seen g.M.Memory.bytes c.args.self.now) (call_of c.args.call) (reply_of c.dispatch.result) facts.answer;
    }
