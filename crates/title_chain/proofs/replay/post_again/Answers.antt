-- The post has the effect of its ask.
use Rattle.title_chain.specs.Laws.PostsAgain.{post_done}
use Rattle.title_chain.proofs.replay.post_again.Goals as goal

pub returns-clause-content : goal.returns-clause-content
returns-clause-content g c =
    post_done _ _ _ _ _ _ c.in-Post-Posted.is-0 (rw c.terms-terms.ensures.terms at c.in_ok-put_alone.ensures.content)
