-- A node's text is its own field.
use Rattle.std.proofs.Common.{◌∙◌, sym}
use Rattle.title_report.proofs.{Plain.{node_field}, Puts.{put_as, put_done}}
use Rattle.title_report.proofs.nodes.put_node.Goals as goal

pub returns : goal.returns
returns g c =
    let made = rw c.new-line.ensures.empty at c.add_node.ensures.added in record {
      put = put_as (node_field c.args.node.now ∙ sym (c.as_bytes.ensures.bytes ∙ made))
          (put_done c.put.ensures.written c.put.ensures.well c.put.ensures.stopped c.put.ensures.failed);
    }
