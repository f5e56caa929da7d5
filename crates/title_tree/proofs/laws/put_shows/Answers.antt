-- The law is a lemma.
use Rattle.title_tree.specs.Laws.Images.{put_content as lemma}
use Rattle.title_tree.proofs.laws.put_shows.Goals as goal

pub returns : goal.returns
returns c = record { law = lemma }
