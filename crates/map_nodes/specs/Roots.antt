-- What the root of a draft's own chunks shows.
use Rattle.map_chunks.specs.Shown.{Seen}
use Rattle.map_nodes.specs.declared.roots.Form.{Form}
use Rattle.map_nodes.specs.declared.roots.Form.TheVariants.{Node, Trail}

abbrev pub form_seen : Form → Seen
form_seen (Node n) = n
form_seen (Trail t) = t
