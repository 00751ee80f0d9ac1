mod FilledCuboids
