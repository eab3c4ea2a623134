use Rattle.node_workers.proofs.serving.serve_named.Given as goal

abbrev pub ghosts-serve_logged : goal.ghosts-serve_logged
ghosts-serve_logged g a = record { log = a.log.log }
