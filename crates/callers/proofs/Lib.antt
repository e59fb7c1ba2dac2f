mod LongFiles
